-- One step at a repeating form: its round, and the counter at it or past it.
use Prim.Native.Nat.{ℕ, ◌+◌, ◌^◌, ◌<◌, ◌≤◌}
use mathlib.Core.Path.{◌≡◌, refl, ap, sym, ◌∙◌, subst}
use mathlib.Core.Logic.{◌⊎◌, ⊎_elim}
use mathlib.Core.List.{List, [], ◌∷◌}
use mathlib.Core.Bool.{Bool, true, false, cond}
use native.Mathlib.Omega.{arith}
use native.Mathlib.Nat.{mod-eq_of_lt}
use native.Mathlib.Numerals.{add-one}
use lib.ListN.{length, get_or, take, drop, length-drop}
use lib.Seq.{drop-cons}
use borrow.Author.Tests.{le-ltb}
use Rattle.answer.specs.declared.Why.{Why}
use Rattle.little.specs.declared.Size.{Size}
use Rattle.little.specs.declared.Size.TheVariants.{Byte, Word, Long}
use Rattle.little.specs.Width.{bits_of, bytes_of}
use Rattle.flags.specs.Flag.{compared_of}
use Rattle.flags.specs.Sums.{difference_of}
use Rattle.memory.specs.Place.{place_of}
use Rattle.memory.specs.Access.{load_of, store_of, ram_after, code_at}
use Rattle.memory.specs.declared.Place.{Place}
use Rattle.memory.specs.declared.Place.TheVariants.{Ram, Rom, Missing}
use Rattle.memory.proofs.Laws.{ram_fits_lem, after_length, after_below, after_above, code_in}
use Rattle.state.specs.State.{long_of, with_long, with_counter, with_flags, with_both_flags}
use Rattle.state.specs.Register.{slot_in, set_slot, register_at, set_register}
use Rattle.state.specs.declared.State.{State}
use Rattle.state.proofs.Valid.{Valid, valid_says, valid_from}
use Rattle.code.specs.Listed.{decode_of}
use Rattle.code.specs.declared.Form.{Form}
use Rattle.code.specs.declared.Op.{Op}
use Rattle.code.specs.declared.Op.TheVariants.{Blocks}
use Rattle.code.specs.declared.Instruction.{Instruction}
use Rattle.code.specs.Range.{that, Holds, InRange}
use Rattle.code.specs.Rows.{no_long}
use Rattle.code.proofs.Prefix.{same_start}
use Rattle.code.proofs.Walked.{length_fits, block_length, ranges}
use Rattle.operand.specs.Try.{Try, did, no, and_then}
use Rattle.operand.specs.Operand.{pointer_of, storing, stored_by}
use Rattle.operand.specs.Flag.{flags_in, flagged}
use Rattle.block.specs.Block.{more_in, counted, moved, accumulator, copied, compared, round_of, goes_on, ends_at}
use Rattle.control.specs.Control.{control_of}
use Rattle.stack.specs.Stack.{stack_of}
use Rattle.compute.specs.Compute.{puts_of}
use Rattle.exec.specs.Exec.{past_of, effect_of, executed_of, done}
use Rattle.turn.specs.Once.{once_of}
use Rattle.step.specs.Step.{too_long}
use Rattle.run.specs.Demand.{At}
use Rattle.run.proofs.Bytes.{bytes_code}
use Rattle.block.proofs.Rounds.{round_copies, round_compares, round_missing}
use Rattle.run.proofs.Rounds.{Pointers, pointers, Rounded, Left, unchanged, wrote, left_length, left_bytes}
use Rattle.std.proofs.Common.{Ok, Err}
use Rattle.answer.specs.Number.{Answer}
use Rattle.memory.specs.Access.{Loaded}
use Rattle.code.specs.Unread.{Decoded}

-- ---- the counter has no part in a round
pointer_free : (s : State) (c r : ℕ) → pointer_of (with_counter s c) r ≡ pointer_of s r
unfolding register_at slot_in long_of with_counter
pointer_free s c r = refl

copied_free : (f : Form) (s : State) (c : ℕ) → copied f (with_counter s c) ≡ with_counter (copied f s) c
unfolding copied flagged with_flags with_both_flags counted moved register_at set_register slot_in set_slot long_of with_long with_counter
copied_free f s c = refl

unfoldable compared_with : ℕ → Form → ℕ → State → State
compared_with a f x s =
    let t = counted (moved f f.from s) in
    flagged t (compared_of (flags_in s) (difference_of (bits_of f.size) a x false).flags (more_in t))

with_free : (a : ℕ) (f : Form) (x : ℕ) (s : State) (c : ℕ) → compared_with a f x (with_counter s c) ≡ with_counter (compared_with a f x s) c
unfolding compared_with flagged with_flags with_both_flags counted moved register_at set_register slot_in set_slot long_of with_long with_counter
with_free a f x s c = refl

acc_free : (s : State) (c : ℕ) (z : Size) → accumulator (with_counter s c) z ≡ accumulator s z
unfolding register_at slot_in long_of with_counter
acc_free s c Byte = refl
acc_free s c Word = refl
acc_free s c Long = refl

compared_free : (f : Form) (x : ℕ) (s : State) (c : ℕ) → compared f x (with_counter s c) ≡ with_counter (compared f x s) c
unfolding compared compared_with
compared_free f x s c =
    ap (λ (a : ℕ). compared_with a f x (with_counter s c)) (acc_free s c f.size) ∙ with_free (accumulator s f.size) f x s c

goes_free : (f : Form) (s : State) (c : ℕ) → goes_on f (with_counter s c) ≡ goes_on f s
unfolding goes_on register_at slot_in long_of with_counter
goes_free f s c = refl

storing_free :
    (f : Form) (s : State) (c : ℕ) (ram rom : List ℕ) (a : ℕ) (z : Size) (x : ℕ) →
    storing (copied f (with_counter s c)) ram rom a z x ≡ and_then (storing (copied f s) ram rom a z x) (λ (t : State). with_counter t c)
unfolding storing store_of ram_after
storing_free f s c ram rom a z x = go (store_of ram rom a z)
  where
    go : (r : Answer) →
        stored_by r (copied f (with_counter s c)) (ram_after ram rom a z x)
        ≡ and_then (stored_by r (copied f s) (ram_after ram rom a z x)) (λ (t : State). with_counter t c)
    go (Ok _) = ap (λ (t : State). did t (ram_after ram rom a z x)) (copied_free f s c)
    go (Err w) = refl

pub round_free :
    (f : Form) (s : State) (c : ℕ) (ram rom : List ℕ) →
    round_of f (with_counter s c) ram rom ≡ and_then (round_of f s ram rom) (λ (t : State). with_counter t c)
round_free f s c ram rom = go (load_of ram rom (pointer_of s f.from) f.size) refl f.copies refl
  where
    there : {l : Loaded} → load_of ram rom (pointer_of s f.from) f.size ≡ l → load_of ram rom (pointer_of (with_counter s c) f.from) f.size ≡ l
    there e = ap (λ (a : ℕ). load_of ram rom a f.size) (pointer_free s c f.from) ∙ e

    go : (l : Loaded) → load_of ram rom (pointer_of s f.from) f.size ≡ l → (b : Bool) → f.copies ≡ b →
        round_of f (with_counter s c) ram rom ≡ and_then (round_of f s ram rom) (λ (t : State). with_counter t c)
    go (Err x) e b k =
        round_missing f (with_counter s c) ram rom x (there e)
        ∙ sym (ap (λ (t : Try). and_then t (λ (t : State). with_counter t c)) (round_missing f s ram rom x e))
    go (Ok x) e true k =
        round_copies f (with_counter s c) ram rom x (there e) k
        ∙ ap (λ (a : ℕ). storing (copied f (with_counter s c)) ram rom a f.size x) (pointer_free s c f.to)
        ∙ storing_free f s c ram rom (pointer_of s f.to) f.size x
        ∙ sym (ap (λ (t : Try). and_then t (λ (t : State). with_counter t c)) (round_copies f s ram rom x e k))
    go (Ok x) e false k =
        round_compares f (with_counter s c) ram rom x (there e) k
        ∙ ap (λ (t : State). did t ram) (compared_free f x s c)
        ∙ sym (ap (λ (t : Try). and_then t (λ (t : State). with_counter t c)) (round_compares f s ram rom x e k))

-- ---- the two bytes of the form stay through a round that spares them
two_bytes : (l : List ℕ) (c : ℕ) → c + 2 ≤ length l → take 2 (drop c l) ≡ get_or l c 0 ∷ get_or l (c + 1) 0 ∷ []
two_bytes l c h =
    ap (take 2) (drop-cons l c 0 (omega arith) ∙ ap (λ (t : List ℕ). get_or l c 0 ∷ t) (ap (λ (n : ℕ). drop n l) (sym (add-one c)) ∙ drop-cons l (c + 1) 0 (omega arith)))

two_kept :
    (ram rom : List ℕ) (a : ℕ) (z : Size) (v c : ℕ) → c + 2 ≤ length ram → (a + bytes_of z ≤ c) ⊎ (c + 2 ≤ a) →
    take 2 (drop c ram) ≡ take 2 (drop c (ram_after ram rom a z v))
two_kept ram rom a z v c h far =
    let n = after_length ram rom a z v in
    two_bytes ram c h
    ∙ rw (same c (omega arith) (omega arith), same (c + 1) (omega arith) (omega arith)) refl
    ∙ sym (two_bytes (ram_after ram rom a z v) c (omega arith))
  where
    same : (i : ℕ) → c ≤ i → i < c + 2 → get_or ram i 0 ≡ get_or (ram_after ram rom a z v) i 0
    same i l k = sym (⊎_elim (λ (x : a + bytes_of z ≤ c). after_above ram rom a z v i (omega arith)) (λ (x : c + 2 ≤ a). after_below ram rom a z v i (omega arith)) far)

code_kept :
    (ram rom : List ℕ) (a : ℕ) (z : Size) (v c : ℕ) (i : Instruction) → i.length ≡ 2 → (a + bytes_of z ≤ c) ⊎ (c + 2 ≤ a) →
    decode_of (code_at ram rom c) ≡ Ok i → decode_of (code_at (ram_after ram rom a z v) rom c) ≡ Ok i
code_kept ram rom a z v c i two far e = go (place_of (length ram) (length rom) c 1) refl
  where
    m : List ℕ
    m = ram_after ram rom a z v

    place_m : {q : Place} → place_of (length ram) (length rom) c 1 ≡ q → place_of (length m) (length rom) c 1 ≡ q
    place_m h = ap (λ (n : ℕ). place_of n (length rom) c 1) (after_length ram rom a z v) ∙ h

    go : (q : Place) → place_of (length ram) (length rom) c 1 ≡ q → decode_of (code_at m rom c) ≡ Ok i
    go (Ram o) h =
        let at = (ram_fits_lem (length ram) (length rom) c 1 o h).0 in
        let here : code_at ram rom c ≡ drop c ram = code_in ram rom c h ∙ ap (λ (n : ℕ). drop n ram) at in
        let d : decode_of (drop c ram) ≡ Ok i = sym (ap decode_of here) ∙ e in
        let fits = length_fits (drop c ram) i d in
        let room : c + 2 ≤ length ram = omega (arith, fits, length-drop c ram) in
        let n = after_length ram rom a z v in
        let long : i.length ≤ length (drop c m) = simp length-drop (omega arith) in
        let same : take i.length (drop c ram) ≡ take i.length (drop c m) = rw two (two_kept ram rom a z v c room far) in
        ap decode_of (code_in m rom c (place_m h) ∙ ap (λ (n : ℕ). drop n m) at) ∙ same_start (drop c ram) (drop c m) i d long same
    go (Rom o) h = ap decode_of (code_in m rom c (place_m h) ∙ sym (code_in ram rom c h)) ∙ e
    go (Missing x) h = ap decode_of (code_in m rom c (place_m h) ∙ sym (code_in ram rom c h)) ∙ e

-- ---- the counter after a round on a state past the form
past_is :
    (f : Form) (s : State) (ram rom : List ℕ) →
    round_of f (past_of 2 s) ram rom ≡ and_then (round_of f s ram rom) (λ (u : State). with_counter u (s.counter + 2))
unfolding past_of
past_is f s ram rom = round_free f s (s.counter + 2) ram rom

pub back_at : (u : State) (c d : ℕ) → u.counter ≡ c → c < 2 ^ 24 → with_counter (with_counter u d) c ≡ u
unfolding with_counter
back_at u c d x h = rw (mod-eq_of_lt h, ← x) refl

end_is : (f : Form) (u : State) (c : ℕ) → u.counter ≡ c → c < 2 ^ 24 → ends_at f c (with_counter u (c + 2)) ≡ cond (goes_on f u) u (past_of 2 u)
unfolding ends_at past_of
end_is f u c x h =
    ap (λ (b : Bool). cond b (with_counter (with_counter u (c + 2)) c) (with_counter u (c + 2))) (goes_free f u (c + 2))
    ∙ rw (back_at u c (c + 2) x h, x) refl

-- ---- a step at a form
module _ (f : Form) (s : State) (ram rom : List ℕ) (a : At f s ram rom) where
  at_range : InRange (Blocks f) a.instruction.size a.instruction.operand
  at_range =
      let r = ranges (code_at ram rom s.counter) a.instruction (bytes_code ram rom s.counter a.ram_bytes a.rom_bytes) a.here in
      subst (λ (op : Op). InRange op a.instruction.size a.instruction.operand) a.form r

  pub at_pointers : Pointers f
  at_pointers = pointers f at_range.0

  -- its elements are bytes or words
  pub at_short : bytes_of f.size ≤ 2
  at_short = subst (λ (n : ℕ). n ≤ 2) (sym at_range.1.1.0) (no_long_lem a.instruction.size at_range.1.0)
    where
      no_long_lem : (z : Size) → Holds (that (no_long z)) → bytes_of z ≤ 2
      no_long_lem Byte e = omega arith
      no_long_lem Word e = omega arith
      no_long_lem Long e = absurd e

  pub at_valid : Valid s
  at_valid = valid_says s a.valid

  two_long : a.instruction.length ≡ 2
  two_long = block_length (code_at ram rom s.counter) a.instruction f a.here a.form

  pub within : too_long (length ram) (length rom) ≡ false
  within = rw (le-ltb 65536 (length ram) a.ram_fits, le-ltb 65536 (length rom) a.rom_fits) refl

  -- the step is the round on a state past the form, and then the counter back where it goes on
  step_is : once_of s ram rom ≡ and_then (round_of f (past_of 2 s) ram rom) (ends_at f s.counter)
  unfolding once_of executed_of control_of stack_of puts_of effect_of
  step_is =
      ap (λ (d : Decoded). done d s ram rom) a.here
      ∙ rw (a.form, two_long) refl

  -- so it is the round, with the counter at the form or past it
  pub step_did :
      (t : State) (m : List ℕ) → round_of f s ram rom ≡ did t m → t.counter ≡ s.counter →
      once_of s ram rom ≡ did (cond (goes_on f t) t (past_of 2 t)) m
  step_did t m e c =
      step_is
      ∙ ap (λ (x : Try). and_then x (ends_at f s.counter)) (past_is f s ram rom ∙ ap (λ (x : Try). and_then x (λ (u : State). with_counter u (s.counter + 2))) e)
      ∙ ap (λ (u : State). did u m) (end_is f t s.counter c at_valid.counter)

  pub step_no : (w : Why) → round_of f s ram rom ≡ no w → once_of s ram rom ≡ no w
  step_no w e =
      step_is
      ∙ ap (λ (x : Try). and_then x (ends_at f s.counter)) (past_is f s ram rom ∙ ap (λ (x : Try). and_then x (λ (u : State). with_counter u (s.counter + 2))) e)

  -- after a round that spares the form's two bytes the machine is at the form again
  pub at_next :
      (t : State) (m : List ℕ) → Rounded f s t → Left f s ram rom m →
      (f.copies ≡ true → (pointer_of s f.to + bytes_of f.size ≤ s.counter) ⊎ (s.counter + 2 ≤ pointer_of s f.to)) → At f t m rom
  at_next t m r l far =
      record {
        sound = r.sound;
        valid = valid_from t r.valid;
        ram_bytes = left_bytes a.ram_bytes l;
        rom_bytes = a.rom_bytes;
        ram_fits = subst (λ (n : ℕ). n ≤ 65536) (sym (left_length l)) a.ram_fits;
        rom_fits = a.rom_fits;
        instruction = a.instruction;
        here = ap (λ (c : ℕ). decode_of (code_at m rom c)) r.counter ∙ go l;
        form = a.form;
        repeats = a.repeats;
      }
    where
      go : {n : List ℕ} → Left f s ram rom n → decode_of (code_at n rom s.counter) ≡ Ok a.instruction
      go unchanged = a.here
      go (wrote c v) = code_kept ram rom (pointer_of s f.to) f.size v s.counter a.instruction two_long (far c) a.here
