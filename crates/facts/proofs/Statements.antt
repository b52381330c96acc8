-- The statements that a user reads, proved.
use Prim.Native.Nat.{ℕ, ◌<◌, ◌≤◌, ◌^◌}
use mathlib.Core.Path.{◌≡◌, refl, ap, sym, ◌∙◌, subst}
use mathlib.Core.List.{List}
use mathlib.Core.Bool.{Bool, true, false, cond, ◌||◌}
use mathlib.Core.Logic.{◌⊎◌, inl, inr, ⊎_elim}
use native.Mathlib.Omega.{arith}
use lib.ListN.{length}
use lib.Dec.{ltb}
use borrow.Author.Tests.{ltb-true, ltb-false, le-ltb}
use Rattle.answer.specs.declared.Why.{Why}
use Rattle.answer.specs.declared.Why.TheVariants.{TooMany, TooLong, Invalid, BadRequest, NoOldForm, NoCode, Unlisted, Undefined, Missing, ToRom}
use Rattle.answer.specs.Number.{why_number, number_of, first_refusal}
use Rattle.little.specs.declared.Size.TheVariants.{Long}
use Rattle.memory.specs.Access.{code_at, load_from, store_to}
use Rattle.memory.specs.Place.{place_of}
use Rattle.memory.specs.declared.Place.{Place}
use Rattle.memory.specs.declared.Place.TheVariants as place
use Rattle.memory.proofs.Laws.{load_in, place_rom, place_low}
use Rattle.state.specs.State.{valid_of}
use Rattle.state.specs.Sound.{Sound}
use Rattle.state.specs.declared.State.{State}
use Rattle.state.proofs.Valid.{Valid, valid_says, valid_from}
use Rattle.code.specs.declared.Instruction.{Instruction}
use Rattle.code.specs.Listed.{decode_of}
use Rattle.step.specs.declared.Stepped.{Stepped}
use Rattle.operand.specs.Try.{Try, did, no, Outcome, leaves, and_then}
use Rattle.block.specs.Block.{moved, copied, compared, round_of, goes_on, ends_at}
use Rattle.exec.specs.Exec.{past_of, effect_of, executed_of, done}
use Rattle.turn.specs.Once.{once_of}
use Rattle.step.specs.Step.{too_long, guarded, try_of, step_of}
use Rattle.step.specs.Reset.{reset_of, reset_from}
use Rattle.facts.specs.Touched.{Span, none, bytes, uses_marked, read_of, stored_of, load_to, read_answer, store_answer, operands_answer, answer_by, KeepsRest}
use Rattle.facts.specs.Statements.{◌⇔◌, RefusedChangesNothing, Within, Passed, RefusedWhen, KeepsValid, StoresOnlyThere, Settled, ResetMissing, single, RoundIsSingle}
use Rattle.facts.proofs.Touched.{Kept, Recounted, Gives}
use Rattle.facts.proofs.Kept.{valid_kept, valid_recounted, Whole, whole_kept, whole_recounted, spares_length, executed_fair}
use Rattle.std.proofs.Common.{Ok, Err}
use Rattle.answer.specs.Number.{Answer}
use Rattle.code.specs.Unread.{Decoded}
use Rattle.code.specs.declared.Unread.TheVariants as unread

-- ---- the limits
pub longer : (a b : ℕ) → too_long a b ≡ true → (2 ^ 16 < a) ⊎ (2 ^ 16 < b)
longer a b e = go (ltb (2 ^ 16) a) (ltb (2 ^ 16) b) refl refl e
  where
    go : (x y : Bool) → ltb (2 ^ 16) a ≡ x → ltb (2 ^ 16) b ≡ y → (x || y) ≡ true → (2 ^ 16 < a) ⊎ (2 ^ 16 < b)
    go true y p q h = inl (ltb-true _ _ p)
    go false true p q h = inr (ltb-true _ _ q)
    go false false p q h = let z : ◌≡◌ {A = ℕ} 0 1 = cc in absurd (omega arith)

pub within : (a b : ℕ) → too_long a b ≡ false → (a ≤ 2 ^ 16) × (b ≤ 2 ^ 16)
within a b e = go (ltb (2 ^ 16) a) (ltb (2 ^ 16) b) refl refl e
  where
    go : (x y : Bool) → ltb (2 ^ 16) a ≡ x → ltb (2 ^ 16) b ≡ y → (x || y) ≡ false → (a ≤ 2 ^ 16) × (b ≤ 2 ^ 16)
    go true y p q h = let z : ◌≡◌ {A = ℕ} 0 1 = cc in absurd (omega arith)
    go false true p q h = let z : ◌≡◌ {A = ℕ} 0 1 = cc in absurd (omega arith)
    go false false p q h = (ltb-false _ _ p, ltb-false _ _ q)

pub not_long : (a b : ℕ) → a ≤ 2 ^ 16 → b ≤ 2 ^ 16 → too_long a b ≡ false
not_long a b p q = rw (le-ltb (2 ^ 16) a p, le-ltb (2 ^ 16) b q) refl

-- ---- what a fair try leaves
-- a refusal has a number
pub some : (w : Why) → 1 ≤ why_number w
some TooMany = omega arith
some TooLong = omega arith
some Invalid = omega arith
some BadRequest = omega arith
some NoOldForm = omega arith
some NoCode = omega arith
some Unlisted = omega arith
some Undefined = omega arith
some (Missing x) = omega arith
some (ToRom x) = omega arith

module _ (P : State → Type 0) (s : State) (ram rom : List ℕ) (a : Answer) (g : Span) where
  pub fair_answer : (t : Try) → Gives P ram rom a g t → (leaves s ram t).answer ≡ a
  unfolding Gives
  fair_answer (did t m) h = sym h.1.1
  fair_answer (no w) h = sym h

  pub fair_done : (t : Try) → Gives P ram rom a g t → (leaves s ram t).answer ≡ Ok tt → P (leaves s ram t).state × KeepsRest g ram (leaves s ram t).ram
  unfolding Gives
  fair_done (did t m) h e = (h.0, h.1.0)
  fair_done (no w) h e = absurd (omega (arith, ap number_of e, some w))

-- 0, 5 and 6 are all that operands can give; flags give 8
abbrev pub ByOperands : Answer → Type 0
ByOperands a = (number_of a ≡ 0) ⊎ ((5 ≤ number_of a) × (number_of a ≤ 6))

abbrev ByBoth : Answer → Type 0
ByBoth a = ByOperands a ⊎ (number_of a ≡ 8)

by_load : (p : Place) → ByOperands (load_to p)
by_load (place.Ram o) = inl refl
by_load (place.Rom o) = inl refl
by_load (place.Missing x) = inr (omega arith, omega arith)

by_store : (p : Place) (a : ℕ) → ByOperands (store_to p a)
by_store (place.Ram o) a = inl refl
by_store (place.Rom o) a = inr (omega arith, omega arith)
by_store (place.Missing x) a = inr (omega arith, omega arith)

pub by_operands : (ram rom : List ℕ) (r g : Span) → ByOperands (operands_answer ram rom r g)
unfolding operands_answer
by_operands ram rom r g = go (read_answer ram rom r) (reading r) (store_answer ram rom g) (storing g)
  where
    reading : (x : Span) → ByOperands (read_answer ram rom x)
    reading none = inl refl
    reading (bytes a n) = by_load (place_of (length ram) (length rom) a n)

    storing : (x : Span) → ByOperands (store_answer ram rom x)
    storing none = inl refl
    storing (bytes a n) = by_store (place_of (length ram) (length rom) a n) a

    go : (a : Answer) → ByOperands a → (b : Answer) → ByOperands b → ByOperands (first_refusal a b)
    go (Ok _) p b q = q
    go (Err w) p b q = p

by_both : (ram rom : List ℕ) (b : Bool) (r g : Span) → ByBoth (answer_by b (operands_answer ram rom r g))
by_both ram rom true r g = inr refl
by_both ram rom false r g = inl (by_operands ram rom r g)

abbrev answer_in : Outcome → Answer
answer_in o = o.answer

module _ (s : State) (ram rom : List ℕ) where
  abbrev answer : Answer
  answer = (step_of s ram rom).answer

  abbrev judged : Decoded
  judged = decode_of (code_at ram rom s.counter)

  abbrev reads : Instruction → Span
  reads i = read_of i.op i.size i.operand (past_of i.length s)

  abbrev target : Instruction → Span
  target i = stored_of i.op i.size i.operand (past_of i.length s)

  abbrev uses : Instruction → Bool
  uses i = uses_marked i.op s

  abbrev operated_by : Instruction → Answer
  operated_by i = answer_by (uses i) (operands_answer ram rom (reads i) (target i))

  step_long : too_long (length ram) (length rom) ≡ true → step_of s ram rom ≡ leaves s ram (no TooLong)
  unfolding step_of try_of guarded
  step_long e = rw e refl

  step_invalid : too_long (length ram) (length rom) ≡ false → valid_of s ≡ false → step_of s ram rom ≡ leaves s ram (no Invalid)
  unfolding step_of try_of guarded
  step_invalid e f = rw (e, f) refl

  -- past the checks, the code bytes are judged
  pub step_judged : (d : Decoded) → too_long (length ram) (length rom) ≡ false → valid_of s ≡ true → judged ≡ d → step_of s ram rom ≡ leaves s ram (done d s ram rom)
  unfolding step_of try_of guarded once_of
  step_judged d e f h = rw (e, f, h) refl

  pub step_whole : (i : Instruction) → Passed s ram rom → judged ≡ Ok i → step_of s ram rom ≡ leaves s ram (executed_of i s ram rom)
  step_whole i p e = step_judged (Ok i) (not_long (length ram) (length rom) p.0.0 p.0.1) p.1 e

  answered : (i : Instruction) → Passed s ram rom → judged ≡ Ok i → answer ≡ operated_by i
  answered i p e =
      ap answer_in (step_whole i p e)
      ∙ fair_answer Valid s ram rom (operated_by i) (target i) (executed_of i s ram rom)
      (executed_fair Valid i s ram rom valid_kept (valid_recounted i.op) (valid_says s p.1))

  pub left : (P : State → Type 0) → Kept P → P s → (i : Instruction) → Recounted P i.op → Passed s ram rom → judged ≡ Ok i → answer ≡ Ok tt → P (step_of s ram rom).state × KeepsRest (target i) ram (step_of s ram rom).ram
  left P k ok i c p e d =
      let w = step_whole i p e in
      subst (λ (o : Outcome). P o.state × KeepsRest (target i) ram o.ram) (sym w)
      (fair_done P s ram rom (operated_by i) (target i) (executed_of i s ram rom) (executed_fair P i s ram rom k c ok) (sym (ap answer_in w) ∙ d))

  -- the five courses of a step
  data Course : Type 0 where
    long : (2 ^ 16 < length ram) ⊎ (2 ^ 16 < length rom) → answer ≡ Err TooLong → Course
    invalid : Within ram rom → valid_of s ≡ false → answer ≡ Err Invalid → Course
    short : Passed s ram rom → judged ≡ Err unread.Short → answer ≡ Err NoCode → Course
    unlisted : Passed s ram rom → judged ≡ Err unread.Unlisted → answer ≡ Err Unlisted → Course
    whole : (i : Instruction) → Passed s ram rom → judged ≡ Ok i → answer ≡ operated_by i → Course

  course : Course
  course = go (too_long (length ram) (length rom)) (valid_of s) judged refl refl refl
    where
      go : (b v : Bool) (d : Decoded) → too_long (length ram) (length rom) ≡ b → valid_of s ≡ v → judged ≡ d → Course
      go true v d e f h = long (longer _ _ e) (ap answer_in (step_long e))
      go false false d e f h = invalid (within _ _ e) f (ap answer_in (step_invalid e f))
      go false true (Err unread.Short) e f h = short (within _ _ e, f) h (ap answer_in (step_judged (Err unread.Short) e f h))
      go false true (Err unread.Unlisted) e f h = unlisted (within _ _ e, f) h (ap answer_in (step_judged (Err unread.Unlisted) e f h))
      go false true (Ok i) e f h = whole i (within _ _ e, f) h (answered i (within _ _ e, f) h)

  -- a number from 1 to 4 does not come from operands and flags
  not_operands : (i : Instruction) (a : Answer) → 1 ≤ number_of a → number_of a ≤ 4 → answer ≡ operated_by i → answer ≡ a → ⊥
  not_operands i a l m e f = go (by_both ram rom (uses i) (reads i) (target i)) (ap number_of (sym e ∙ f))
    where
      go : ByBoth (operated_by i) → number_of (operated_by i) ≡ number_of a → ⊥
      go (inl (inl z)) n = omega arith
      go (inl (inr z)) n = omega (arith, z.0)
      go (inr z) n = omega arith

  -- two courses cannot both be
  pub far : (limit : (2 ^ 16 < length ram) ⊎ (2 ^ 16 < length rom)) → Within ram rom → ⊥
  far (inl h) w = omega (arith, w.0)
  far (inr h) w = omega (arith, w.1)

  one_holds : (answer ≡ Err TooLong) ⇔ ((2 ^ 16 < length ram) ⊎ (2 ^ 16 < length rom))
  one_holds = (go course, back course)
    where
      go : Course → answer ≡ Err TooLong → (2 ^ 16 < length ram) ⊎ (2 ^ 16 < length rom)
      go (long l a) e = l
      go (invalid w v a) e = absurd (omega (arith, ap number_of (sym a ∙ e)))
      go (short p d a) e = absurd (omega (arith, ap number_of (sym a ∙ e)))
      go (unlisted p d a) e = absurd (omega (arith, ap number_of (sym a ∙ e)))
      go (whole i p d a) e = absurd (not_operands i (Err TooLong) (omega arith) (omega arith) a e)

      back : Course → (2 ^ 16 < length ram) ⊎ (2 ^ 16 < length rom) → answer ≡ Err TooLong
      back (long l a) h = a
      back (invalid w v a) h = absurd (far h w)
      back (short p d a) h = absurd (far h p.0)
      back (unlisted p d a) h = absurd (far h p.0)
      back (whole i p d a) h = absurd (far h p.0)

  -- a state is not both valid and invalid
  pub both : valid_of s ≡ true → valid_of s ≡ false → ⊥
  both e f = let z : ◌≡◌ {A = ℕ} 0 1 = ap (λ (b : Bool). cond b 0 1) (sym e ∙ f) in omega arith

  two_holds : (answer ≡ Err Invalid) ⇔ (Within ram rom × (valid_of s ≡ false))
  two_holds = (go course, back course)
    where
      go : Course → answer ≡ Err Invalid → Within ram rom × (valid_of s ≡ false)
      go (long l a) e = absurd (omega (arith, ap number_of (sym a ∙ e)))
      go (invalid w v a) e = (w, v)
      go (short p d a) e = absurd (omega (arith, ap number_of (sym a ∙ e)))
      go (unlisted p d a) e = absurd (omega (arith, ap number_of (sym a ∙ e)))
      go (whole i p d a) e = absurd (not_operands i (Err Invalid) (omega arith) (omega arith) a e)

      back : Course → Within ram rom × (valid_of s ≡ false) → answer ≡ Err Invalid
      back (long l a) h = absurd (far l h.0)
      back (invalid w v a) h = a
      back (short p d a) h = absurd (both p.1 h.1)
      back (unlisted p d a) h = absurd (both p.1 h.1)
      back (whole i p d a) h = absurd (both p.1 h.1)

  -- the bytes are judged one way
  abbrev kind : Decoded → ℕ
  kind (Err unread.Short) = 0
  kind (Err unread.Unlisted) = 1
  kind (Ok i) = 2

  three_holds : (answer ≡ Err NoCode) ⇔ (Passed s ram rom × (judged ≡ Err unread.Short))
  three_holds = (go course, back course)
    where
      go : Course → answer ≡ Err NoCode → Passed s ram rom × (judged ≡ Err unread.Short)
      go (long l a) e = absurd (omega (arith, ap number_of (sym a ∙ e)))
      go (invalid w v a) e = absurd (omega (arith, ap number_of (sym a ∙ e)))
      go (short p d a) e = (p, d)
      go (unlisted p d a) e = absurd (omega (arith, ap number_of (sym a ∙ e)))
      go (whole i p d a) e = absurd (not_operands i (Err NoCode) (omega arith) (omega arith) a e)

      back : Course → Passed s ram rom × (judged ≡ Err unread.Short) → answer ≡ Err NoCode
      back (long l a) h = absurd (far l h.0.0)
      back (invalid w v a) h = absurd (both h.0.1 v)
      back (short p d a) h = a
      back (unlisted p d a) h = absurd (omega (arith, ap kind (sym d ∙ h.1)))
      back (whole i p d a) h = absurd (omega (arith, ap kind (sym d ∙ h.1)))

  four_holds : (answer ≡ Err Unlisted) ⇔ (Passed s ram rom × (judged ≡ Err unread.Unlisted))
  four_holds = (go course, back course)
    where
      go : Course → answer ≡ Err Unlisted → Passed s ram rom × (judged ≡ Err unread.Unlisted)
      go (long l a) e = absurd (omega (arith, ap number_of (sym a ∙ e)))
      go (invalid w v a) e = absurd (omega (arith, ap number_of (sym a ∙ e)))
      go (short p d a) e = absurd (omega (arith, ap number_of (sym a ∙ e)))
      go (unlisted p d a) e = (p, d)
      go (whole i p d a) e = absurd (not_operands i (Err Unlisted) (omega arith) (omega arith) a e)

      back : Course → Passed s ram rom × (judged ≡ Err unread.Unlisted) → answer ≡ Err Unlisted
      back (long l a) h = absurd (far l h.0.0)
      back (invalid w v a) h = absurd (both h.0.1 v)
      back (short p d a) h = absurd (omega (arith, ap kind (sym d ∙ h.1)))
      back (unlisted p d a) h = a
      back (whole i p d a) h = absurd (omega (arith, ap kind (sym d ∙ h.1)))

  -- 8 comes from a marked flag, and from nothing else
  eight_marked : (i : Instruction) → answer ≡ operated_by i → answer ≡ Err Undefined → uses i ≡ true
  eight_marked i a e = go (uses i) (by_operands ram rom (reads i) (target i)) (ap number_of (sym a ∙ e))
    where
      go : (b : Bool) → ByOperands (operands_answer ram rom (reads i) (target i)) → number_of (answer_by b (operands_answer ram rom (reads i) (target i))) ≡ 8 → b ≡ true
      go true z n = refl
      go false (inl z) n = absurd (omega arith)
      go false (inr z) n = absurd (omega (arith, z.1))

  eight_holds :
      (answer ≡ Err Undefined) ⇔ (Passed s ram rom × ((i : Instruction) × (judged ≡ Ok i) × (uses i ≡ true)))
  eight_holds = (go course, λ h. back h.1.0 h.0 h.1.1 h.1.2)
    where
      go : Course → answer ≡ Err Undefined → Passed s ram rom × ((i : Instruction) × (judged ≡ Ok i) × (uses i ≡ true))
      go (long l a) e = absurd (omega (arith, ap number_of (sym a ∙ e)))
      go (invalid w v a) e = absurd (omega (arith, ap number_of (sym a ∙ e)))
      go (short p d a) e = absurd (omega (arith, ap number_of (sym a ∙ e)))
      go (unlisted p d a) e = absurd (omega (arith, ap number_of (sym a ∙ e)))
      go (whole i p d a) e = (p, (i, d, eight_marked i a e))

      back : (i : Instruction) → Passed s ram rom → judged ≡ Ok i → uses i ≡ true → answer ≡ Err Undefined
      back i p d u = answered i p d ∙ ap (λ (b : Bool). answer_by b (operands_answer ram rom (reads i) (target i))) u

  pub refused_when : RefusedWhen s ram rom
  refused_when = record { one = one_holds; two = two_holds; three = three_holds; four = four_holds; eight = eight_holds; operands = answered }

  number_most : (w : Why) → Course → answer ≡ Err w → (why_number w ≤ 6) ⊎ (why_number w ≡ 8)
  number_most w (long l a) e = inl (omega (arith, ap number_of (sym a ∙ e)))
  number_most w (invalid x v a) e = inl (omega (arith, ap number_of (sym a ∙ e)))
  number_most w (short p d a) e = inl (omega (arith, ap number_of (sym a ∙ e)))
  number_most w (unlisted p d a) e = inl (omega (arith, ap number_of (sym a ∙ e)))
  number_most w (whole i p d a) e = go (by_both ram rom (uses i) (reads i) (target i)) (ap number_of (sym a ∙ e))
    where
      go : ByBoth (operated_by i) → number_of (operated_by i) ≡ why_number w → (why_number w ≤ 6) ⊎ (why_number w ≡ 8)
      go (inl (inl z)) n = inl (omega arith)
      go (inl (inr z)) n = inl (omega (arith, z.1))
      go (inr z) n = inr (sym n ∙ z)

  -- an accepted step, and one refused with 5, 6 or 8, has a whole instruction at its counter
  pub operated : (b : Answer) → (number_of b ≡ 0) ⊎ (5 ≤ number_of b) → answer ≡ b → (i : Instruction) × (Passed s ram rom × (judged ≡ Ok i))
  operated b n e = go course
    where
      judged_so : (c : Answer) → answer ≡ c → 1 ≤ number_of c → number_of c ≤ 4 → ⊥
      judged_so c a l m = ⊎_elim (λ z. omega (arith, ap number_of (sym a ∙ e))) (λ z. omega (arith, ap number_of (sym a ∙ e))) n

      go : Course → (i : Instruction) × (Passed s ram rom × (judged ≡ Ok i))
      go (long l a) = absurd (judged_so _ a (omega arith) (omega arith))
      go (invalid w v a) = absurd (judged_so _ a (omega arith) (omega arith))
      go (short p d a) = absurd (judged_so _ a (omega arith) (omega arith))
      go (unlisted p d a) = absurd (judged_so _ a (omega arith) (omega arith))
      go (whole i p d a) = (i, (p, d))

-- ---- the statements
unchanged : (s : State) (ram : List ℕ) (t : Try) (w : Why) → (leaves s ram t).answer ≡ Err w → ((leaves s ram t).state ≡ s) × ((leaves s ram t).ram ≡ ram)
unchanged s ram (did u m) w e = absurd (omega (arith, ap number_of e, some w))
unchanged s ram (no v) w e = (refl, refl)

step_unchanged : (s : State) (ram rom : List ℕ) (w : Why) → (step_of s ram rom).answer ≡ Err w → ((step_of s ram rom).state ≡ s) × ((step_of s ram rom).ram ≡ ram)
unfolding step_of
step_unchanged s ram rom w e = unchanged s ram (try_of s ram rom) w e

pub refused_changes_nothing : RefusedChangesNothing
refused_changes_nothing s ram rom w e =
    let same = step_unchanged s ram rom w e in
    (same.0, same.1, some w, number_most s ram rom w (course s ram rom) e)

pub keeps_valid : KeepsValid
keeps_valid s ram rom e = go (operated s ram rom (Ok tt) (inl refl) e)
  where
    go :
        (i : Instruction) × (Passed s ram rom × (decode_of (code_at ram rom s.counter) ≡ Ok i))
        → (valid_of (step_of s ram rom).state ≡ true) × (length (step_of s ram rom).ram ≡ length ram) × (Sound s → Sound (step_of s ram rom).state)
    go (i, (p, d)) =
        let v = left s ram rom Valid valid_kept (valid_says s p.1) i (valid_recounted i.op) p d e in
        (valid_from (step_of s ram rom).state v.0, spares_length (stored_of i.op i.size i.operand (past_of i.length s)) ram (step_of s ram rom).ram v.1, λ ok. (left s ram rom Whole whole_kept (valid_says s p.1, ok) i (whole_recounted i.op) p d e).0.1)

pub stores_only_there : StoresOnlyThere
stores_only_there s ram rom i e d = go (operated s ram rom (Ok tt) (inl refl) e)
  where
    go :
        (j : Instruction) × (Passed s ram rom × (decode_of (code_at ram rom s.counter) ≡ Ok j))
        → KeepsRest (stored_of i.op i.size i.operand (past_of i.length s)) ram (step_of s ram rom).ram
    go (j, (p, f)) = (left s ram rom Valid valid_kept (valid_says s p.1) i (valid_recounted i.op) p d e).1

-- the result in an outcome
abbrev given : Outcome → Stepped
given o = record { state = o.state; answer = o.answer }

pub settled : (s : State) (ram rom : List ℕ) (at : ℕ) → Settled s ram rom at
settled s ram rom at =
    record {
      step = λ r q m n e f. (ap (λ (o : Outcome). given o) (e ∙ sym f), ap (λ (o : Outcome). o.ram) (e ∙ sym f));
      show = λ p q a b v w e f. (e.0 ∙ sym f.0, e.1 ∙ sym f.1);
      show_answer = λ a b e f. e ∙ sym f;
      reset = λ r q e f. e ∙ sym f;
    }

-- the vector's place
reset_at : (ram rom : List ℕ) {p : Place} → Within ram rom → place_of (length ram) (length rom) 0xFFFF00 4 ≡ p → reset_of ram rom ≡ reset_from (load_from p ram rom 4)
unfolding reset_of
reset_at ram rom {p} w e = rw (not_long (length ram) (length rom) w.0 w.1) (ap reset_from (load_in ram rom 0xFFFF00 Long 4 refl e))

pub reset_missing : ResetMissing
reset_missing ram rom w = (
  λ h. reset_at ram rom w (place_low (length ram) (length rom) 0xFFFF00 4 (omega arith) (omega (arith, w.0)) (omega arith)),
  λ h. ap (λ (r : Stepped). r.answer) (reset_at ram rom w (place_rom (length ram) (length rom) 0xFFFF00 4 (omega (arith, w.0)) (omega arith) (omega arith))),
)

pub round_is_single : RoundIsSingle
unfolding effect_of single ends_at goes_on round_of copied compared moved
round_is_single f z o at s ram rom = (same (round_of f s ram rom), ap (λ (t : Try). and_then t (ends_at f at)) (sym (same (round_of f s ram rom))))
  where
    same : (t : Try) → and_then t (λ s. s) ≡ t
    same (did u m) = refl
    same (no w) = refl
