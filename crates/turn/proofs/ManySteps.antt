-- Laws of many steps: several of them done, and one turn of the loop.
use Prim.Native.Nat.{ℕ, zero, suc, ◌+◌, ◌-◌, ◌≤◌}
use mathlib.Core.Path.{◌≡◌, refl, ap, sym, ◌∙◌, subst}
use mathlib.Core.List.{List}
use native.Mathlib.Omega.{arith}
use native.Mathlib.Nat.{sub-zero}
use Rattle.answer.specs.declared.Why.{Why}
use Rattle.state.specs.declared.State.{State}
use Rattle.operand.specs.Try.{Try, did, no, Outcome, leaves, after}
use Rattle.turn.specs.declared.Ran.{Ran}
use Rattle.turn.specs.Once.{once_of}
use Rattle.turn.specs.inner.Times.{onward, times_of, Fewer}
use Rattle.turn.specs.Many.{Result, result_with, ends, many_of}
use Rattle.turn.proofs.Times.{state_or, ram_or, was_done, was_refused, times_one}
use Rattle.std.proofs.Common.{Ok, Err}
use Rattle.answer.specs.Number.{Answer}

-- ---- some steps left
pub many_none : (d : ℕ) (s : State) (ram rom : List ℕ) → many_of 0 d s ram rom ≡ ends d s ram (Ok tt)
unfolding many_of
many_none d s ram rom = refl

pub many_did :
    (n d : ℕ) (s : State) (ram rom : List ℕ) (t : State) (m : List ℕ) → once_of s ram rom ≡ did t m →
    many_of (suc n) d s ram rom ≡ many_of n (d + 1) t m rom
unfolding many_of
many_did n d s ram rom t m e = rw (e, many_of)

pub many_no :
    (n d : ℕ) (s : State) (ram rom : List ℕ) (w : Why) → once_of s ram rom ≡ no w → many_of (suc n) d s ram rom ≡ ends d s ram (Err w)
unfolding many_of
many_no n d s ram rom w e = rw (e, many_of)

-- one of them
pub one_of : (s : State) (ram rom : List ℕ) (r : Ran) (m : List ℕ) → result_with r m ≡ many_of 1 0 s ram rom →
    after r.answer r.state m ≡ leaves s ram (once_of s ram rom)
one_of s ram rom r m e = go (once_of s ram rom) refl
  where
    left : Result → Outcome
    left x = after x.answer x.state x.ram

    go : (x : Try) → once_of s ram rom ≡ x → after r.answer r.state m ≡ leaves s ram x
    go (did t l) h = ap left (e ∙ many_did 0 0 s ram rom t l h ∙ many_none 1 t l rom)
    go (no w) h = ap left (e ∙ many_no 0 0 s ram rom w h)

-- ---- several steps, all of them done: what k of them come to
abbrev Gone : ℕ → State → List ℕ → List ℕ → State → List ℕ → Type 0
Gone k s ram rom t m = (r d : ℕ) → many_of (k + r) d s ram rom ≡ many_of r (d + k) t m rom

module _ (s : State) (ram rom : List ℕ) where
  gone_on : (k : ℕ) (u : State) (v : List ℕ) (t : State) (m : List ℕ) → Gone k s ram rom u v → once_of u v rom ≡ did t m → Gone (suc k) s ram rom t m
  gone_on k u v t m h e r d =
      let i : suc k + r ≡ k + suc r = omega arith in
      let j : d + k + 1 ≡ d + suc k = omega arith in
      ap (λ (n : ℕ). many_of n d s ram rom) i ∙ h (suc r) d ∙ many_did r (d + k) u v rom t m e ∙ ap (λ (n : ℕ). many_of r n t m rom) j

  gone_none : (t : State) (m : List ℕ) → did s ram ≡ did t m → Gone 0 s ram rom t m
  gone_none t m e r d =
      let u : s ≡ t = ap (state_or s) e in
      let v : ram ≡ m = ap (ram_or ram) e in
      let y : 0 + r ≡ r = omega arith in
      let z : d + 0 ≡ d = omega arith in
      ap (λ (n : ℕ). many_of n d s ram rom) y ∙ ap (λ (x : State). many_of r d x ram rom) u ∙ ap (λ (x : List ℕ). many_of r d t x rom) v
      ∙ ap (λ (x : ℕ). many_of r x t m rom) (sym z)

  gone : (k : ℕ) (t : State) (m : List ℕ) → times_of k s ram rom ≡ did t m → Gone k s ram rom t m
  unfolding times_of
  gone zero t m e = gone_none t m e
  gone (suc k) t m e = last (times_of k s ram rom) (λ u v f. gone k u v f) e
    where
      last :
          (x : Try) → ((u : State) (v : List ℕ) → x ≡ did u v → Gone k s ram rom u v) → onward x (λ u v. once_of u v rom) ≡ did t m
          → Gone (suc k) s ram rom t m
      last (no w) h g = let z : ◌≡◌ {A = ℕ} 0 1 = cc in absurd (omega arith)
      last (did u v) h g = gone_on k u v t m (h u v refl) g

-- ---- one turn of the loop, from what `once` answers: of n steps more than one, l are left
module _
    (s : State) (ram rom : List ℕ) (a : Answer) (u : State) (m : List ℕ) (n l : ℕ) (fewer : Fewer a n l)
    (e : after a u m ≡ leaves s ram (times_of (suc (n - l)) s ram rom)) where
  pub turn_less : a ≡ Ok tt → l ≤ n
  turn_less d = subst (λ (x : Answer). Fewer x n l) d fewer

  pub turn_same : (w : Why) → a ≡ Err w → l ≡ n
  turn_same w d = subst (λ (x : Answer). Fewer x n l) d fewer

  pub turn_on : (d : ℕ) → a ≡ Ok tt → many_of (suc n) d s ram rom ≡ many_of l (d + suc (n - l)) u m rom
  turn_on d h =
      let b = turn_less h in
      let k : suc n ≡ suc (n - l) + l = omega (arith, b) in
      ap (λ (x : ℕ). many_of x d s ram rom) k
      ∙ gone s ram rom (suc (n - l)) u m (was_done s ram a u m (times_of (suc (n - l)) s ram rom) e h) l d

  pub turn_off : (d : ℕ) (w : Why) → a ≡ Err w → ◌≡◌ {A = Result} (ends d u m (Err w)) (many_of (suc n) d s ram rom)
  turn_off d w h =
      let x = was_refused s ram a u m w (times_of (suc (n - l)) s ram rom) e h in
      let f : once_of s ram rom ≡ no w =
      sym (times_one n s ram rom) ∙ ap (λ (y : ℕ). times_of (suc (n - y)) s ram rom) (sym (turn_same w h)) ∙ x.0 in
      rw (x.1, x.2) (sym (many_no n d s ram rom w f))

pub turn_end : (n : ℕ) (s : State) (ram rom : List ℕ) (l : ℕ) → l ≡ 0 → ◌≡◌ {A = Result} (ends n s ram (Ok tt)) (many_of l (n - l) s ram rom)
turn_end n s ram rom l z =
    sym (ap (λ (x : ℕ). many_of x (n - x) s ram rom) z ∙ ap (λ (x : ℕ). many_of 0 x s ram rom) (sub-zero n) ∙ many_none n s ram rom)
