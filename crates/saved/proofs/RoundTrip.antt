-- A state that is saved and read is the same, and a record that is read and saved is the same. Both forms are proved at once: a record is
-- the old record with a tail, of four bytes or of none, and what the tail lacks reads as 0.
use Prim.Native.Nat.{ℕ, suc, ◌+◌, ◌*◌, ◌/◌, ◌%◌, ◌^◌, ◌<◌, ◌≤◌}
use mathlib.Core.Path.{◌≡◌, refl, ap, sym, ◌∙◌}
use mathlib.Core.Bool.{true}
use mathlib.Core.List.{List, [], ◌∷◌, ◌++◌, append_assoc, append-nil}
use native.Mathlib.Omega.{arith}
use lib.ListN.{length, get_or, take, drop, length-append, length-drop, take-append-drop, drop_of_length-le, get_or-eq_default}
use lib.Dec.{eqb}
use lib.Seq.{take_at, drop_at, drop-drop, get_or-drop, drop-cons}
use borrow.Author.Tests.{eq-eqb, eqb-true}
use Rattle.little.specs.Bytes.{Bytes, value_of, bytes_from}
use Rattle.little.proofs.Laws.{length_bytes, value_bytes, value_take}
use Rattle.state.specs.State.{valid_of, f_of}
use Rattle.state.specs.Sound.{Sound}
use Rattle.state.specs.declared.State.{State}
use Rattle.state.proofs.Valid.{Valid, valid_says, and_true}
use Rattle.state.specs.Sr.{sr_of, f_in, ones_in}
use Rattle.state.proofs.Sr.{sr_lt, sr_back, sr_ones, sr_whole}
use Rattle.saved.specs.Record.{record_length, old_length, longs_bytes, old_record_of, marks_byte, record_of, fits_old}
use Rattle.saved.specs.Record.{longs_at, sr_at, nesting_at, marks_at, state_at, zero_at, fixed_at, is_record_of, is_record, restored_from}
use Rattle.saved.specs.Statements.{FrontIsOld, SavedReadsBack, RecordsAreOfStates, OldRecordsAreOfStates}
use Rattle.saved.proofs.Numbers.{longs_length, longs_back, bytes_drop, part_bytes, bytes_longs, longs_fit}
use Rattle.saved.proofs.Laws.{marks_lt, load_good}
use Rattle.std.proofs.Common.{Ok}

-- the parts of an old record with a tail
parts :
    (s : State) (t : List ℕ) →
    old_record_of s ++ t ≡ longs_bytes s.registers ++ (bytes_from 4 s.counter ++ (bytes_from 2 (sr_of s) ++ (f_of s.spare ∷ 0 ∷ t)))
unfolding old_record_of
parts s t = simp append_assoc

old_length_lem : (s : State) → Sound s → length (old_record_of s) ≡ old_length
unfolding old_record_of
old_length_lem s ok = simp (length-append, longs_length, length_bytes) (omega (arith, ok.twenty))

-- ---- saved, then read
-- a tail that tells the count and the marks of a state, and then a zero
record Tail (s : State) (t : List ℕ) : Type 0 where
  nesting : value_of (take 2 t) ≡ s.nesting
  marks : get_or t 2 0 ≡ marks_byte s
  zero : get_or t 3 0 ≡ 0

-- the bytes of a record, and none
new_tail : (s : State) → Sound s → Tail s (bytes_from 2 s.nesting ++ (marks_byte s ∷ 0 ∷ []))
unfolding bytes_from
new_tail s ok = record { nesting = value_bytes 2 s.nesting ok.nesting_fit; marks = refl; zero = refl }

fits_says : (s : State) → fits_old s ≡ true → (marks_byte s ≡ 0) × (s.nesting ≡ 0)
fits_says s e = let a = and_true (eqb (marks_byte s) 0) _ e in (eqb-true _ _ a.0, eqb-true _ _ a.1)

no_tail : (s : State) → fits_old s ≡ true → Tail s []
unfolding value_of
no_tail s e = let k = fits_says s e in record { nesting = sym k.1; marks = sym k.0; zero = refl }

pub front_is_old : FrontIsOld
unfolding record_of bytes_from
front_is_old s ok = (
  take_at (old_record_of s) _ old_length (old_length_lem s ok),
  λ m. let k = fits_says s m in rw (k.0, k.1) refl,
)

module _ (s : State) (ok : Sound s) (v : Valid s) (t : List ℕ) where
  abbrev whole : List ℕ
  whole = old_record_of s ++ t

  abbrev last : List ℕ
  last = f_of s.spare ∷ 0 ∷ t

  abbrev status : List ℕ
  status = bytes_from 2 (sr_of s) ++ last

  longs_80 : length (longs_bytes s.registers) ≡ 80
  longs_80 = longs_length s.registers ∙ omega (arith, ok.twenty)

  at_80 : drop 80 whole ≡ bytes_from 4 s.counter ++ status
  at_80 = rw (parts s t) (drop_at (longs_bytes s.registers) _ 80 longs_80)

  at_84 : drop 84 whole ≡ status
  at_84 = sym (drop-drop 4 80 whole) ∙ ap (drop 4) at_80 ∙ drop_at (bytes_from 4 s.counter) _ 4 (length_bytes 4 s.counter)

  at_86 : drop 86 whole ≡ last
  at_86 = sym (drop-drop 2 84 whole) ∙ ap (drop 2) at_84 ∙ drop_at (bytes_from 2 (sr_of s)) _ 2 (length_bytes 2 (sr_of s))

  at_88 : drop 88 whole ≡ t
  at_88 = sym (drop-drop 2 86 whole) ∙ ap (drop 2) at_86

  byte_is : (i : ℕ) → get_or whole (86 + i) 0 ≡ get_or last i 0
  byte_is i = sym (get_or-drop 86 whole i 0) ∙ ap (λ (l : List ℕ). get_or l i 0) at_86

  sr_is : sr_at whole ≡ sr_of s
  sr_is =
      ap (λ (l : List ℕ). value_of (take 2 l)) at_84
      ∙ ap value_of (take_at (bytes_from 2 (sr_of s)) _ 2 (length_bytes 2 (sr_of s)))
      ∙ value_bytes 2 (sr_of s) (sr_lt s v)

  registers_are : longs_at 20 whole ≡ s.registers
  registers_are = rw (← ok.twenty, parts s t) (longs_back s.registers _ ok.fit)

  counter_is : value_of (take 4 (drop 80 whole)) ≡ s.counter
  counter_is =
      rw (at_80, take_at (bytes_from 4 s.counter) _ 4 (length_bytes 4 s.counter))
      (value_bytes 4 s.counter (omega (arith, v.counter)))

  whole_length : length whole ≡ old_length + length t
  whole_length = simp (length-append, old_length_lem s ok)

  module _ (k : Tail s t) where
    marks_are : marks_at whole ≡ marks_byte s
    marks_are = byte_is 4 ∙ k.marks

    nesting_is : nesting_at whole ≡ s.nesting
    nesting_is = ap (λ (l : List ℕ). value_of (take 2 l)) at_88 ∙ k.nesting

    flags_are : f_in (sr_of s) + 2 ^ 8 * (marks_byte s % 4) ≡ s.flags
    flags_are = omega (arith, (sr_back s v).2, marks_lt s.flags v.flags)

    spare_is : f_of s.spare + 2 ^ 8 * (marks_byte s / 4) ≡ s.spare
    spare_is = omega (arith, marks_lt s.flags v.flags)

    whole_back : state_at whole ≡ s
    unfolding state_at
    whole_back =
        let back = sr_back s v in
        rw (registers_are, counter_is, sr_is, marks_are, byte_is 0, back.0, back.1, flags_are, spare_is, nesting_is)

    whole_good : valid_of s ≡ true → is_record_of (old_length + length t) whole ≡ true
    whole_good e =
        simp (
          eq-eqb _ _ whole_length,
          ap valid_of whole_back ∙ e,
          sr_is,
          sr_ones s v,
          byte_is 1,
          byte_is 5 ∙ k.zero,
        )

    reads_back : valid_of s ≡ true → restored_from (old_length + length t) whole ≡ record { answer = Ok tt; state = s }
    reads_back e = load_good _ whole (whole_good e) ∙ ap (λ (r : State). record { answer = Ok tt; state = r }) whole_back

pub saved_reads_back : SavedReadsBack
unfolding record_of bytes_from
saved_reads_back s ok e =
    let v = valid_says s e in (
      reads_back s ok v _ (new_tail s ok) e,
      λ m. rw (append-nil (old_record_of s)) at (reads_back s ok v [] (no_tail s m) e),
    )

-- ---- read, then saved
drop_byte : (l : List ℕ) (i b : ℕ) → i < length l → get_or l i 0 ≡ b → drop i l ≡ b ∷ drop (suc i) l
drop_byte l i b h e = drop-cons l i 0 h ∙ ap (λ (x : ℕ). x ∷ drop (suc i) l) e

module _ (l : List ℕ) (h : Bytes l) where
  pub marks_same : marks_byte (state_at l) ≡ marks_at l
  unfolding state_at
  marks_same = omega (arith, h 86)

  module _ (n : old_length ≤ length l) (m : fixed_at l ≡ true) where
    fixed : (ones_in (sr_at l) ≡ true) × (get_or l 87 0 ≡ 0) × (get_or l 91 0 ≡ 0)
    fixed =
        let a = and_true (ones_in (sr_at l)) _ m in
        let b = and_true (zero_at 87 l) _ a.1 in
        (a.0, eqb-true _ _ b.0, eqb-true _ _ b.1)

    sr_same : sr_of (state_at l) ≡ sr_at l
    unfolding state_at
    sr_same =
        let f : (f_in (sr_at l) + 2 ^ 8 * (marks_at l % 4)) % 2 ^ 8 ≡ f_in (sr_at l) = omega arith in
        rw f (sr_whole (sr_at l) (value_take 2 (drop 84 l) (bytes_drop 84 l h)) fixed.0)

    last_same : f_of (state_at l).spare ∷ 0 ∷ drop 88 l ≡ drop 86 l
    unfolding state_at
    last_same =
        let f : f_of (get_or l 86 0 + 2 ^ 8 * (marks_at l / 4)) ≡ get_or l 86 0 = omega (arith, h 86) in
        rw (f, drop_byte l 86 (get_or l 86 0) (omega arith) refl, drop_byte l 87 0 (omega arith) fixed.1)

    front_same : old_record_of (state_at l) ++ drop 88 l ≡ l
    unfolding state_at
    front_same =
        let longs : longs_bytes (longs_at 20 l) ≡ take 80 l = bytes_longs 20 l (omega arith) h in
        let counter : bytes_from 4 (value_of (take 4 (drop 80 l))) ≡ take 4 (drop 80 l) =
        part_bytes 4 (drop 80 l) (simp length-drop (omega arith)) (bytes_drop 80 l h) in
        let sr : bytes_from 2 (sr_of (state_at l)) ≡ take 2 (drop 84 l) =
        ap (bytes_from 2) sr_same ∙ part_bytes 2 (drop 84 l) (simp length-drop (omega arith)) (bytes_drop 84 l h) in
        rw (
          parts (state_at l) (drop 88 l),
          longs,
          counter,
          sr,
          last_same,
          ← drop-drop 2 84 l,
          take-append-drop 2 (drop 84 l),
          ← drop-drop 4 80 l,
          take-append-drop 4 (drop 80 l),
        )
        (take-append-drop 80 l)

    -- what follows the front of a record
    tail_same : length l ≡ record_length → bytes_from 2 (nesting_at l) ++ (marks_byte (state_at l) ∷ 0 ∷ []) ≡ drop 88 l
    tail_same e =
        let two : bytes_from 2 (nesting_at l) ≡ take 2 (drop 88 l) =
        part_bytes 2 (drop 88 l) (simp length-drop (omega arith)) (bytes_drop 88 l h) in
        let last : drop 90 l ≡ marks_byte (state_at l) ∷ 0 ∷ [] =
        rw (
          drop_byte l 90 (marks_byte (state_at l)) (omega arith) (sym marks_same),
          drop_byte l 91 0 (omega arith) fixed.2,
          drop_of_length-le l {i = record_length} (omega arith),
        ) in
        rw (two, ← last, ← drop-drop 2 88 l) (take-append-drop 2 (drop 88 l))

    record_same : length l ≡ record_length → record_of (state_at l) ≡ l
    unfolding record_of state_at
    record_same e = rw (tail_same e) front_same

    old_same : length l ≡ old_length → old_record_of (state_at l) ≡ l
    old_same e = sym (append-nil (old_record_of (state_at l))) ∙ rw (← drop_of_length-le l {i = old_length} (omega arith)) front_same

-- past the end nothing is told
old_fits : (l : List ℕ) → Bytes l → length l ≤ old_length → fits_old (state_at l) ≡ true
unfolding state_at value_of
old_fits l h n =
    let m : marks_byte (state_at l) ≡ 0 = marks_same l h ∙ get_or-eq_default l 0 (omega arith) in
    let c : nesting_at l ≡ 0 = rw (drop_of_length-le l n) refl in
    simp (eq-eqb _ _ m, eq-eqb _ _ c)

-- what is read is sound
pub sound_at : (l : List ℕ) → Bytes l → Sound (state_at l)
unfolding state_at longs_at
sound_at l h =
    record {
      twenty = refl;
      fit = longs_fit 20 l h;
      counter_fit = value_take 4 (drop 80 l) (bytes_drop 80 l h);
      bank_fit = omega arith;
      level_fit = omega arith;
      flags_fit = omega arith;
      spare_fit = omega (arith, h 86, h 90);
      nesting_fit = value_take 2 (drop 88 l) (bytes_drop 88 l h);
    }

-- what a good record is
pub good_says : (n : ℕ) (l : List ℕ) → is_record_of n l ≡ true → (length l ≡ n) × (valid_of (state_at l) ≡ true) × (fixed_at l ≡ true)
good_says n l e =
    let a = and_true (eqb (length l) n) _ e in
    let b = and_true (valid_of (state_at l)) _ a.1 in
    (eqb-true _ _ a.0, b.0, b.1)

pub read_saves_back : (l : List ℕ) → Bytes l → is_record l ≡ true → record_of (state_at l) ≡ l
read_saves_back l h e =
    let g = good_says record_length l e in
    record_same l h (omega (arith, g.0)) g.2 g.0

pub records_are_of_states : RecordsAreOfStates
unfolding record_of bytes_from
records_are_of_states = (
  λ s ok e. whole_good s ok (valid_says s e) _ (new_tail s ok) e,
  λ l h e. ((good_says record_length l e).1, read_saves_back l h e),
)

pub old_records_are_of_states : OldRecordsAreOfStates
old_records_are_of_states = (
  λ s ok e m. rw (append-nil (old_record_of s)) at (whole_good s ok (valid_says s e) [] (no_tail s m) e),
  λ l h e.
      let g = good_says old_length l e in (
        g.1,
        old_fits l h (omega (arith, g.0)),
        old_same l h (omega (arith, g.0)) g.2 g.0,
      ),
)
