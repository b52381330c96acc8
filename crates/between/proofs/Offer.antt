-- One offer of a request, proved.
use Prim.Native.Nat.{ℕ, ◌<◌, ◌≤◌, ◌^◌}
use mathlib.Core.Path.{◌≡◌, refl, ap, sym, ◌∙◌, subst}
use mathlib.Core.List.{List}
use mathlib.Core.Bool.{Bool, true, false, cond, not, ◌&&◌, ◌||◌}
use mathlib.Core.Logic.{◌⊎◌, inl, inr}
use native.Mathlib.Omega.{arith}
use lib.Dec.{leb}
use lib.ListN.{length}
use borrow.Author.Tests.{leb-true, leb-false, le-leb, lt-leb}
use Rattle.answer.specs.Number.{number_of, why_number}
use Rattle.answer.specs.declared.Why.{Why}
use Rattle.answer.specs.declared.Why.TheVariants.{TooLong, Invalid, BadRequest}
use Rattle.little.specs.declared.Size.TheVariants.{Long}
use Rattle.state.specs.declared.State.{State}
use Rattle.state.specs.State.{valid_of, with_nesting}
use Rattle.state.proofs.Valid.{Valid, valid_says, valid_from}
use Rattle.operand.specs.Try.{Try, did, no, Outcome, after, leaves}
use Rattle.stack.specs.Stack.{push_bytes}
use Rattle.step.specs.Step.{too_long, guarded}
use Rattle.facts.specs.Touched.{none, bytes, below_stack, operands_answer, KeepsRest}
use Rattle.facts.specs.Statements.{◌⇔◌, Within, Passed}
use Rattle.facts.proofs.Touched.{register_kept, Kept, Gives, fair_storing_bytes, fair_loaded, fair_then}
use Rattle.facts.proofs.Kept.{valid_kept, valid_recounted, Whole, whole_kept, whole_recounted}
use Rattle.facts.proofs.Statements.{some, longer, within, not_long, fair_answer, fair_done, ByOperands, by_operands, far, both}
use Rattle.code.specs.declared.Op.TheVariants.{Interrupts}
use Rattle.code.specs.declared.Interrupt.TheVariants.{Reti}
use Rattle.request.specs.Request.{bad_request, takes, return_address, entered, taken_of, offered_of, request_of, if_done, took_of}
use Rattle.between.specs.Offer.{Good, OfferedWhen, NotTaken, OfferRefused, TakenKeeps}
use Rattle.std.proofs.Common.{Ok, Err}
use Rattle.answer.specs.Number.{Answer}

-- ---- 9
pub good_not_bad : (level address : ℕ) → Good level address → bad_request level address ≡ false
good_not_bad level address g = rw (le-leb 1 level g.0, le-leb level 7 g.1, lt-leb (2 ^ 24) address g.2) refl

pub not_bad_good : (level address : ℕ) → bad_request level address ≡ false → Good level address
not_bad_good level address e = go (leb 1 level) (leb level 7) (leb (2 ^ 24) address) refl refl refl e
  where
    go :
        (a b c : Bool) → leb 1 level ≡ a → leb level 7 ≡ b → leb (2 ^ 24) address ≡ c → (not (a && b) || c) ≡ false → Good level address
    go true true false p q r h = (leb-true _ _ p, leb-true _ _ q, leb-false _ _ r)
    go true true true p q r h = let z : ◌≡◌ {A = ℕ} 0 1 = cc in absurd (omega arith)
    go true false c p q r h = let z : ◌≡◌ {A = ℕ} 0 1 = cc in absurd (omega arith)
    go false b c p q r h = let z : ◌≡◌ {A = ℕ} 0 1 = cc in absurd (omega arith)

-- ---- what taking it reads, stores and keeps
module _ (P : State → Type 0) (k : Kept P) (c : (s : State) (n : ℕ) → P s → P (with_nesting s n)) where
  entered_kept : (level vector : ℕ) (s : State) → P s → P (entered level vector s)
  unfolding entered
  entered_kept level vector s ok = k.counters _ _ (c _ _ (k.levels s _ ok))

  taken_fair :
      (level address : ℕ) (s : State) (ram rom : List ℕ) → P s
      → Gives P ram rom (operands_answer ram rom (bytes address 4) (below_stack s 6)) (below_stack s 6) (taken_of level address s ram rom)
  taken_fair level address s ram rom ok =
      fair_loaded P ram rom address Long (below_stack s 6) _
      (λ v. fair_then P ram rom none (below_stack s 6) (push_bytes s ram rom 6 (return_address s)) (entered level v)
      (fair_storing_bytes P ram rom _ _ 6 (return_address s) (register_kept k s Long 7 _ ok)) (entered_kept level v))

module _ (level address : ℕ) (s : State) (ram rom : List ℕ) where
  abbrev answer : Answer
  answer = (request_of level address s ram rom).answer

  abbrev operands : Answer
  operands = operands_answer ram rom (bytes address 4) (below_stack s 6)

  abbrev admitted : Bool
  admitted = takes s.level.0 level

  offer_long : too_long (length ram) (length rom) ≡ true → request_of level address s ram rom ≡ after (Err TooLong) s ram
  unfolding request_of offered_of guarded
  offer_long e = rw e refl

  offer_invalid : too_long (length ram) (length rom) ≡ false → valid_of s ≡ false → request_of level address s ram rom ≡ after (Err Invalid) s ram
  unfolding request_of offered_of guarded
  offer_invalid e f = rw (e, f) refl

  offer_bad : Passed s ram rom → bad_request level address ≡ true → request_of level address s ram rom ≡ after (Err BadRequest) s ram
  unfolding request_of offered_of guarded
  offer_bad p b = rw (not_long (length ram) (length rom) p.0.0 p.0.1, p.1, b) refl

  pub offer_out : Passed s ram rom → bad_request level address ≡ false → admitted ≡ false → offered_of level address s ram rom ≡ did s ram
  unfolding offered_of guarded
  offer_out p b t = rw (not_long (length ram) (length rom) p.0.0 p.0.1, p.1, b, t) refl

  pub offer_in : Passed s ram rom → bad_request level address ≡ false → admitted ≡ true → offered_of level address s ram rom ≡ taken_of level address s ram rom
  unfolding offered_of guarded
  offer_in p b t = rw (not_long (length ram) (length rom) p.0.0 p.0.1, p.1, b, t) refl

  -- what the call leaves is what was tried leaves
  left_by_lem : (t : Try) → offered_of level address s ram rom ≡ t → request_of level address s ram rom ≡ leaves s ram t
  unfolding request_of
  left_by_lem t e = ap (leaves s ram) e

  in_answer : Passed s ram rom → bad_request level address ≡ false → admitted ≡ true → answer ≡ operands
  in_answer p b t =
      ap (λ (o : Outcome). o.answer) (left_by_lem (taken_of level address s ram rom) (offer_in p b t))
      ∙ fair_answer Valid s ram rom operands (below_stack s 6) (taken_of level address s ram rom)
      (taken_fair Valid valid_kept (valid_recounted (Interrupts Reti) refl) level address s ram rom (valid_says s p.1))

  -- the five courses of an offer
  pub data Course : Type 0 where
    long : (2 ^ 16 < length ram) ⊎ (2 ^ 16 < length rom) → answer ≡ Err TooLong → Course
    invalid : Within ram rom → valid_of s ≡ false → answer ≡ Err Invalid → Course
    bad : Passed s ram rom → bad_request level address ≡ true → answer ≡ Err BadRequest → Course
    out : Passed s ram rom → bad_request level address ≡ false → admitted ≡ false → request_of level address s ram rom ≡ after (Ok tt) s ram → Course
    let_in : Passed s ram rom → bad_request level address ≡ false → admitted ≡ true → answer ≡ operands → Course

  pub course : Course
  course = go (too_long (length ram) (length rom)) (valid_of s) (bad_request level address) admitted refl refl refl refl
    where
      go :
          (b v w t : Bool) → too_long (length ram) (length rom) ≡ b → valid_of s ≡ v → bad_request level address ≡ w → admitted ≡ t → Course
      go true v w t e f g h = long (longer _ _ e) (ap (λ (o : Outcome). o.answer) (offer_long e))
      go false false w t e f g h = invalid (within _ _ e) f (ap (λ (o : Outcome). o.answer) (offer_invalid e f))
      go false true true t e f g h = bad (within _ _ e, f) g (ap (λ (o : Outcome). o.answer) (offer_bad (within _ _ e, f) g))
      go false true false false e f g h = out (within _ _ e, f) g h (left_by_lem (did s ram) (offer_out (within _ _ e, f) g h))
      go false true false true e f g h = let_in (within _ _ e, f) g h (in_answer (within _ _ e, f) g h)

  -- no other number than 0, 5 and 6 comes from the operands
  not_operands : (w : Why) → (why_number w ≤ 4) ⊎ (7 ≤ why_number w) → answer ≡ operands → answer ≡ Err w → ⊥
  not_operands w h e f = go (by_operands ram rom (bytes address 4) (below_stack s 6)) h
    where
      n : number_of operands ≡ why_number w
      n = ap number_of (sym e ∙ f)

      go : ByOperands operands → (why_number w ≤ 4) ⊎ (7 ≤ why_number w) → ⊥
      go (inl z) g = omega (arith, n, some w)
      go (inr z) (inl g) = omega (arith, n, z.0)
      go (inr z) (inr g) = omega (arith, n, z.1)

  done_not : (w : Why) → request_of level address s ram rom ≡ after (Ok tt) s ram → answer ≡ Err w → ⊥
  done_not w e f = omega (arith, ap number_of (sym (ap (λ (o : Outcome). o.answer) e) ∙ f), some w)

  one_holds : (answer ≡ Err TooLong) ⇔ ((2 ^ 16 < length ram) ⊎ (2 ^ 16 < length rom))
  one_holds = (go course, back course)
    where
      go : Course → answer ≡ Err TooLong → (2 ^ 16 < length ram) ⊎ (2 ^ 16 < length rom)
      go (long l a) e = l
      go (invalid w v a) e = absurd (omega (arith, ap number_of (sym a ∙ e)))
      go (bad p b a) e = absurd (omega (arith, ap number_of (sym a ∙ e)))
      go (out p b t a) e = absurd (done_not TooLong a e)
      go (let_in p b t a) e = absurd (not_operands TooLong (inl (omega arith)) a e)

      back : Course → (2 ^ 16 < length ram) ⊎ (2 ^ 16 < length rom) → answer ≡ Err TooLong
      back (long l a) h = a
      back (invalid w v a) h = absurd (far s ram rom h w)
      back (bad p b a) h = absurd (far s ram rom h p.0)
      back (out p b t a) h = absurd (far s ram rom h p.0)
      back (let_in p b t a) h = absurd (far s ram rom h p.0)

  two_holds : (answer ≡ Err Invalid) ⇔ (Within ram rom × (valid_of s ≡ false))
  two_holds = (go course, back course)
    where
      go : Course → answer ≡ Err Invalid → Within ram rom × (valid_of s ≡ false)
      go (long l a) e = absurd (omega (arith, ap number_of (sym a ∙ e)))
      go (invalid w v a) e = (w, v)
      go (bad p b a) e = absurd (omega (arith, ap number_of (sym a ∙ e)))
      go (out p b t a) e = absurd (done_not Invalid a e)
      go (let_in p b t a) e = absurd (not_operands Invalid (inl (omega arith)) a e)

      back : Course → Within ram rom × (valid_of s ≡ false) → answer ≡ Err Invalid
      back (long l a) h = absurd (far s ram rom l h.0)
      back (invalid w v a) h = a
      back (bad p b a) h = absurd (both s ram rom p.1 h.1)
      back (out p b t a) h = absurd (both s ram rom p.1 h.1)
      back (let_in p b t a) h = absurd (both s ram rom p.1 h.1)

  nine_holds : (answer ≡ Err BadRequest) ⇔ (Passed s ram rom × (Good level address → ⊥))
  nine_holds = (go course, back course)
    where
      go : Course → answer ≡ Err BadRequest → Passed s ram rom × (Good level address → ⊥)
      go (long l a) e = absurd (omega (arith, ap number_of (sym a ∙ e)))
      go (invalid w v a) e = absurd (omega (arith, ap number_of (sym a ∙ e)))
      go (bad p b a) e = (p, λ g. let z : ◌≡◌ {A = ℕ} 0 1 = ap (λ (x : Bool). cond x 0 1) (sym b ∙ good_not_bad level address g) in omega arith)
      go (out p b t a) e = absurd (done_not BadRequest a e)
      go (let_in p b t a) e = absurd (not_operands BadRequest (inr (omega arith)) a e)

      back : Course → Passed s ram rom × (Good level address → ⊥) → answer ≡ Err BadRequest
      back (long l a) h = absurd (far s ram rom l h.0.0)
      back (invalid w v a) h = absurd (both s ram rom h.0.1 v)
      back (bad p b a) h = a
      back (out p b t a) h = absurd (h.1 (not_bad_good level address b))
      back (let_in p b t a) h = absurd (h.1 (not_bad_good level address b))

  pub not_taken : NotTaken level address s ram rom
  unfolding took_of
  not_taken p g t =
      let e = left_by_lem (did s ram) (offer_out p (good_not_bad level address g) t) in
      (e, ap (λ (o : Outcome). if_done o.answer admitted) e ∙ t)

  unchanged : (t : Try) (w : Why) → (leaves s ram t).answer ≡ Err w → ((leaves s ram t).state ≡ s) × ((leaves s ram t).ram ≡ ram)
  unchanged (did u m) w e = absurd (omega (arith, ap number_of e, some w))
  unchanged (no v) w e = (refl, refl)

  pub offer_refused : OfferRefused level address s ram rom
  unfolding request_of took_of
  offer_refused w e =
      let u = unchanged (offered_of level address s ram rom) w e in
      (u.0, u.1, ap (λ (a : Answer). if_done a admitted) e)

  -- ---- one that is taken
  -- it was done and let in, past all checks
  pub record Taken : Type 0 where
    pub passed : Passed s ram rom
    pub good : bad_request level address ≡ false
    pub lets : admitted ≡ true
    pub done : answer ≡ Ok tt

  took_done : (a : Answer) (b : Bool) → if_done a b ≡ true → (a ≡ Ok tt) × (b ≡ true)
  took_done (Ok _) b e = (refl, e)
  took_done (Err w) b e = let z : ◌≡◌ {A = ℕ} 0 1 = cc in absurd (omega arith)

  pub taken_says : took_of level address s ram rom ≡ true → Taken
  unfolding took_of
  taken_says e = let d = took_done answer admitted e in go course d.0 d.1
    where
      go : Course → answer ≡ Ok tt → admitted ≡ true → Taken
      go (long l a) d t = absurd (omega (arith, ap number_of (sym a ∙ d)))
      go (invalid w v a) d t = absurd (omega (arith, ap number_of (sym a ∙ d)))
      go (bad p b a) d t = absurd (omega (arith, ap number_of (sym a ∙ d)))
      go (out p b o a) d t = record { passed = p; good = b; lets = t; done = d }
      go (let_in p b i a) d t = record { passed = p; good = b; lets = t; done = d }

  taken_holds :
      (took_of level address s ram rom ≡ true) ⇔ (Passed s ram rom × Good level address × (admitted ≡ true) × (operands ≡ Ok tt))
  unfolding took_of
  taken_holds = (
    λ e. let t = taken_says e in (t.passed, not_bad_good level address t.good, t.lets, sym (in_answer t.passed t.good t.lets) ∙ t.done),
    λ h. ap (λ (a : Answer). if_done a admitted) (in_answer h.0 (good_not_bad level address h.1) h.2 ∙ h.3) ∙ h.2,
  )

  pub offered_when : OfferedWhen level address s ram rom
  offered_when =
      record { one = one_holds; two = two_holds; nine = nine_holds; operands = λ p g t. in_answer p (good_not_bad level address g) t; taken = taken_holds }

  pub taken_is : Taken → request_of level address s ram rom ≡ leaves s ram (taken_of level address s ram rom)
  taken_is t = left_by_lem (taken_of level address s ram rom) (offer_in t.passed t.good t.lets)

  taken_left :
      (P : State → Type 0) → Kept P → ((s : State) (n : ℕ) → P s → P (with_nesting s n)) → P s → Taken →
      P (request_of level address s ram rom).state × KeepsRest (below_stack s 6) ram (request_of level address s ram rom).ram
  taken_left P k c ok t =
      let e = taken_is t in
      subst (λ (o : Outcome). P o.state × KeepsRest (below_stack s 6) ram o.ram) (sym e)
      (fair_done P s ram rom operands (below_stack s 6) (taken_of level address s ram rom) (taken_fair P k c level address s ram rom ok)
      (sym (ap (λ (o : Outcome). o.answer) e) ∙ t.done))

  pub taken_keeps : TakenKeeps level address s ram rom
  taken_keeps e =
      let t = taken_says e in
      let v = valid_says s t.passed.1 in
      let x = taken_left Valid valid_kept (valid_recounted (Interrupts Reti) refl) v t in
      (valid_from _ x.0, (λ ok. (taken_left Whole whole_kept (whole_recounted (Interrupts Reti) refl) (v, ok) t).0.1), x.1)

  -- ---- whatever comes of it
  refused_some : (a : Answer) → if_done a true ≡ false → (w : Why) × (a ≡ Err w)
  refused_some (Ok _) e = let z : ◌≡◌ {A = ℕ} 0 1 = cc in absurd (omega arith)
  refused_some (Err w) e = (w, refl)

  -- where it is not taken, all is as it was
  pub untaken_same : took_of level address s ram rom ≡ false → ((request_of level address s ram rom).state ≡ s) × ((request_of level address s ram rom).ram ≡ ram)
  unfolding took_of
  untaken_same e = go course
    where
      kept : (w : Why) → answer ≡ Err w → ((request_of level address s ram rom).state ≡ s) × ((request_of level address s ram rom).ram ≡ ram)
      kept w f = let r = offer_refused w f in (r.0, r.1)

      go : Course → ((request_of level address s ram rom).state ≡ s) × ((request_of level address s ram rom).ram ≡ ram)
      go (long l a) = kept TooLong a
      go (invalid w v a) = kept Invalid a
      go (bad p b a) = kept BadRequest a
      go (out p b t a) = (ap (λ (o : Outcome). o.state) a, ap (λ (o : Outcome). o.ram) a)
      go (let_in p b t a) =
          let r = refused_some answer (ap (if_done answer) (sym t) ∙ e) in
          kept r.0 r.1

  -- what every change of a state keeps, an offer keeps
  pub offer_keeps :
      (P : State → Type 0) → Kept P → ((s : State) (n : ℕ) → P s → P (with_nesting s n)) → P s → P (request_of level address s ram rom).state
  offer_keeps P k c ok = go (took_of level address s ram rom) refl
    where
      go : (b : Bool) → took_of level address s ram rom ≡ b → P (request_of level address s ram rom).state
      go true e = (taken_left P k c ok (taken_says e)).0
      go false e = subst P (sym (untaken_same e).0) ok

  pub offer_whole : Whole s → Whole (request_of level address s ram rom).state
  offer_whole = offer_keeps Whole whole_kept (whole_recounted (Interrupts Reti) refl)

  pub offer_valid : Valid s → Valid (request_of level address s ram rom).state
  offer_valid = offer_keeps Valid valid_kept (valid_recounted (Interrupts Reti) refl)
