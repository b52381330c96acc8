-- Laws of taking a request.
use Rattle.std.proofs.Common.{◌≡◌, ℕ, ◌+◌, ◌%◌, ◌^◌, Bool, true, false, cond, not, ◌&&◌, ◌||◌, ltb, leb, List, length, sym, refl, ap, ◌∙◌, ap₂, arith, ltb-true, leb-true, Ok, Err}
use Rattle.answer.specs.declared.Why.{Why}
use Rattle.state.specs.declared.State.{State}
use Rattle.state.specs.State.{valid_of, with_counter, with_level, with_nesting}
use Rattle.state.specs.inner.Lent.{all_of}
use Rattle.state.specs.Sr.{sr_of}
use Rattle.state.proofs.Valid.{valid_says}
use Rattle.state.proofs.Sr.{sr_lt}
use Rattle.operand.specs.Try.{Try, did, no, Outcome, after, leaves, and_then}
use Rattle.operand.specs.Round.{plus}
use Rattle.step.specs.Step.{too_long, guarded}
use Rattle.request.specs.declared.Requested.{Requested}
use Rattle.request.specs.Request.{bad_request, takes, raised_to, entered, return_address, taken_of, offered_of, request_of, if_done, took_of, RequestMeets}
use Rattle.request.specs.inner.Taking.{Takes, pushed_of}
use Rattle.answer.specs.Number.{Answer}

-- the mask is one of eight
raised_fits : (level : ℕ) → raised_to level % 8 ≡ raised_to level
raised_fits level = go (ltb level 7) refl
  where
    go : (b : Bool) → ltb level 7 ≡ b → cond b (level + 1) 7 % 8 ≡ cond b (level + 1) 7
    go true e = omega (arith, ltb-true level 7 e)
    go false e = refl

-- the state that is put together is that which is entered
pub entered_is :
    (s : State) (level vector : ℕ) →
    all_of s.registers (vector % 2 ^ 24) s.bank.0 (raised_to level) s.flags s.spare (plus 16 s.nesting 1) ≡ entered level vector s
unfolding entered with_counter with_level with_nesting
entered_is s level vector =
    let m : plus 16 s.nesting 1 % 2 ^ 16 ≡ plus 16 s.nesting 1 = omega arith in
    let all : ℕ → ℕ → State = λ l n. all_of s.registers (vector % 2 ^ 24) s.bank.0 l s.flags s.spare n in
    ap₂ all (sym (raised_fits level)) (sym m)

-- a push that is refused leaves the state as it was, whatever would have come after it
pub refused_by :
    (s u : State) (ram m : List ℕ) (a : Answer) (w : Why) (t : Try) (f : State → State) →
    after a u m ≡ leaves s ram t → a ≡ Err w → after a s m ≡ leaves s ram (and_then t f)
refused_by s u ram m a w (did v n) f e d =
    let b : a ≡ Ok tt = ap (λ (o : Outcome). o.answer) e in
    let z : ◌≡◌ {A = ℕ} 0 1 = cc in
    absurd (omega arith)
refused_by s u ram m a w (no x) f e d = rw (ap (λ (o : Outcome). o.answer) e, ap (λ (o : Outcome). o.ram) e) refl

-- of a valid state the code pushes what is to be pushed
pub pushed_is : (s : State) → valid_of s ≡ true → pushed_of s ≡ return_address s
pushed_is s v = let h = sr_lt s (valid_says s v) in let e : sr_of s % 2 ^ 16 ≡ sr_of s = omega (arith, h) in rw e refl

-- ---- the checks
-- a level that is not bad is one of seven
pub level_is : (level address : ℕ) → bad_request level address ≡ false → level % 8 ≡ level
level_is level address e = go (leb 1 level) (leb level 7) refl e
  where
    go : (a b : Bool) → leb level 7 ≡ b → (not (a && b) || leb (2 ^ 24) address) ≡ false → level % 8 ≡ level
    go a true f g = let h = leb-true level 7 f in omega (arith, h)
    go true false f g = let z : ◌≡◌ {A = ℕ} 0 1 = cc in absurd (omega arith)
    go false false f g = let z : ◌≡◌ {A = ℕ} 0 1 = cc in absurd (omega arith)

-- past all checks and let in, the call leaves what taking it leaves
pub taken_by :
    (level address : ℕ) (s : State) (ram rom : List ℕ) (r : Requested) (m : List ℕ) →
    too_long (length ram) (length rom) ≡ false → valid_of s ≡ true → bad_request level address ≡ false → takes s.level.0 level ≡ true →
    Takes (taken_of level address s ram rom) s ram r m → RequestMeets level address s ram rom r m
unfolding request_of took_of offered_of guarded
taken_by level address s ram rom r m a b c d h =
    rw (a, b, c, d) (h.0, h.1 ∙ ap (λ (o : Outcome). if_done o.answer true) h.0)
