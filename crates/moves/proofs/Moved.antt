-- When each number is given, both ways and back, and that a move keeps the state. All of it goes by states: a record that is moved is that of
-- its state in the other form.
use Prim.Native.Nat.{ℕ}
use mathlib.Core.Path.{◌≡◌, refl, ap, sym, ◌∙◌}
use mathlib.Core.Logic.{⊎_elim}
use mathlib.Core.Bool.{Bool, true, false, cond, ◌&&◌, and-false}
use mathlib.Core.List.{List}
use lib.ListN.{length}
use lib.Dec.{eqb}
use borrow.Author.Tests.{eq-eqb, ne_eqb, eqb-true}
use Rattle.little.specs.Bytes.{Bytes}
use Rattle.answer.specs.declared.Why.{Why}
use Rattle.answer.specs.declared.Why.TheVariants.{Invalid, NoOldForm}
use Rattle.answer.proofs.Laws.{not_refused}
use Rattle.state.specs.State.{valid_of}
use Rattle.state.proofs.Valid.{and_true}
use Rattle.state.specs.Sound.{Sound}
use Rattle.state.specs.declared.State.{State}
use Rattle.saved.specs.declared.Restored.{Restored}
use Rattle.saved.specs.Record.{record_length, old_length, record_of, old_record_of, fits_old, nesting_at, marks_at, state_at, is_record, is_old_record}
use Rattle.saved.specs.Record.{restored_of, old_restored_of}
use Rattle.saved.proofs.Laws.{load_good}
use Rattle.saved.proofs.RoundTrip.{front_is_old, sound_at, marks_same, good_says, saved_reads_back, read_saves_back, records_are_of_states, old_records_are_of_states}
use Rattle.moves.specs.Moves.{widen_answer, widen_bytes, narrow_answer, narrow_bytes}
use Rattle.moves.specs.Statements.{Narrows, WidensBack, NarrowsBack, MovedLoads, MovedSaves}
use Rattle.moves.proofs.Laws.{wide_bytes, narrow_bytes_lem, widens, narrow_done, narrow_ten, narrow_two}
use Rattle.std.proofs.Common.{Ok, Err}
use Rattle.answer.specs.Number.{Answer}

-- ---- when each number is given
-- that the old form holds the state in a record is told by its bytes
fits_is : (l : List ℕ) → Bytes l → fits_old (state_at l) ≡ (eqb (marks_at l) 0 && eqb (nesting_at l) 0)
unfolding state_at
fits_is l h = ap (λ (m : ℕ). eqb m 0 && eqb (nesting_at l) 0) (marks_same l h)

pub narrows : Narrows
narrows new room h = (
  λ g e n m. narrow_done new room g e (fits_is new h ∙ rw (eq-eqb (marks_at new) 0 m, eq-eqb (nesting_at new) 0 n) refl),
  λ g e.
      ⊎_elim
      (λ n. narrow_ten new room g e (fits_is new h ∙ rw (ne_eqb (nesting_at new) 0 n) (and-false (eqb (marks_at new) 0))))
      (λ m. narrow_ten new room g e (fits_is new h ∙ rw (ne_eqb (marks_at new) 0 m) refl)),
  narrow_two new room,
)

-- ---- a state saved and moved
state_back : (s : State) → Sound s → valid_of s ≡ true → state_at (record_of s) ≡ s
state_back s ok v =
    ap (λ (r : Restored). r.state)
    (sym (load_good record_length (record_of s) (records_are_of_states.0 s ok v)) ∙ (saved_reads_back s ok v).0)

pub moved_saves : MovedSaves
moved_saves s room ok v = (
  λ f e.
      let d = (widens (old_record_of s) room).0 (old_records_are_of_states.0 s ok v f) e in
      (d.0, d.1 ∙ sym ((front_is_old s ok).1 f)),
  λ f e.
      let d = narrow_done (record_of s) room (records_are_of_states.0 s ok v) e (ap fits_old (state_back s ok v) ∙ f) in
      (d.0, d.1 ∙ (front_is_old s ok).0),
  λ f e. narrow_ten (record_of s) room (records_are_of_states.0 s ok v) e (ap fits_old (state_back s ok v) ∙ f),
)

-- ---- a record that was moved
-- a move that is done passed all that is looked for
all_passed : (b f : Bool) (w : Why) → ◌≡◌ {A = Answer} (cond b (cond f (Ok tt) (Err w)) (Err Invalid)) (Ok tt) → (b ≡ true) × (f ≡ true)
all_passed true true w e = (refl, refl)
all_passed true false w e = not_refused e refl
all_passed false f w e = not_refused e refl

-- it wrote the record of the state in the one that it read
widened_is :
    (old room : List ℕ) → Bytes old → widen_answer old (length room) ≡ Ok tt →
    (is_old_record old ≡ true) × (fits_old (state_at old) ≡ true) × (widen_bytes old room ≡ record_of (state_at old))
unfolding widen_answer
widened_is old room h e =
    let p = and_true (is_old_record old) _ (all_passed (is_old_record old && eqb (length room) record_length) true Invalid e).0 in
    let w = (widens old room).0 p.0 (eqb-true _ _ p.1) in
    (p.0, (old_records_are_of_states.1 old h p.0).1, w.1 ∙ sym (wide_bytes old h p.0))

narrowed_is :
    (new room : List ℕ) → Bytes new → narrow_answer new (length room) ≡ Ok tt →
    (is_record new ≡ true) × (fits_old (state_at new) ≡ true) × (narrow_bytes new room ≡ old_record_of (state_at new))
unfolding narrow_answer
narrowed_is new room h e =
    let t = all_passed (is_record new && eqb (length room) old_length) (fits_old (state_at new)) NoOldForm e in
    let p = and_true (is_record new) _ t.0 in
    (p.0, t.1, (narrow_done new room p.0 (eqb-true _ _ p.1) t.1).1 ∙ sym (narrow_bytes_lem new h p.0))

pub widens_back : WidensBack
widens_back old room back h e k =
    let m = widened_is old room h e in
    let o = old_records_are_of_states.1 old h m.0 in
    let d = (moved_saves (state_at old) back (sound_at old h) o.0).1 m.1 k in
    (ap (λ (l : List ℕ). narrow_answer l (length back)) m.2 ∙ d.0, ap (λ (l : List ℕ). narrow_bytes l back) m.2 ∙ d.1 ∙ o.2)

pub narrows_back : NarrowsBack
narrows_back new room back h e k =
    let m = narrowed_is new room h e in
    let d = (moved_saves (state_at new) back (sound_at new h) (good_says record_length new m.0).1).0 m.1 k in (
      ap (λ (l : List ℕ). widen_answer l (length back)) m.2 ∙ d.0,
      ap (λ (l : List ℕ). widen_bytes l back) m.2 ∙ d.1 ∙ read_saves_back new h m.0,
    )

pub moved_loads : MovedLoads
moved_loads = (
  λ old room h e.
      let m = widened_is old room h e in
      ap restored_of m.2
      ∙ (saved_reads_back (state_at old) (sound_at old h) (good_says old_length old m.0).1).0
      ∙ sym (load_good old_length old m.0),
  λ new room h e.
      let m = narrowed_is new room h e in
      ap old_restored_of m.2
      ∙ (saved_reads_back (state_at new) (sound_at new h) (good_says record_length new m.0).1).1 m.1
      ∙ sym (load_good record_length new m.0),
)
