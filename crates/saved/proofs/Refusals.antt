-- Records worked out, and what is refused.
use Prim.Native.Nat.{ℕ}
use mathlib.Core.Path.{◌≡◌, refl, sym, ◌∙◌}
use mathlib.Core.Bool.{Bool, false, ◌&&◌, and-false}
use mathlib.Core.Logic.{◌⊎◌, ⊎_elim}
use mathlib.Core.List.{List}
use lib.Dec.{eqb}
use borrow.Author.Tests.{eq-eqb, ne_eqb}
use Rattle.little.specs.Bytes.{bytes_from}
use Rattle.state.specs.State.{zero_state, with_nesting, with_both_flags}
use Rattle.saved.specs.Record.{longs_bytes, old_record_of, record_of, save_answer, save_bytes, old_save_answer, old_save_bytes, restored_from}
use Rattle.saved.specs.Statements.{ZeroRecord, TailWorked, Saves, OldSaves, BadRecords, Settled}

pub zero_record : ZeroRecord
unfolding old_record_of record_of longs_bytes bytes_from zero_state
zero_record = refl

pub tail_worked : TailWorked
unfolding old_record_of record_of longs_bytes bytes_from zero_state with_nesting with_both_flags
tail_worked = refl

-- a test that fails, or another length, is enough
pub either_fails : (a : Bool) (n m : ℕ) → (a ≡ false) ⊎ (n ≡ m → ⊥) → a && eqb n m ≡ false
either_fails a n m = ⊎_elim (λ g. rw g refl) (λ e. rw (ne_eqb n m e) (and-false a))

pub saves : Saves
unfolding save_answer save_bytes
saves s b = (
  λ v e. (simp (v, eq-eqb _ _ e), simp (v, eq-eqb _ _ e)),
  λ x. let z = either_fails _ _ _ x in (rw z refl, rw z refl),
)

pub old_saves : OldSaves
unfolding old_save_answer old_save_bytes
old_saves s b = (
  λ v m e. (simp (v, m, eq-eqb _ _ e), simp (v, m, eq-eqb _ _ e)),
  ⊎_elim
      (λ v. (simp v, simp v))
      (⊎_elim
      (λ m. (simp (m, and-false), simp (m, and-false)))
      (λ e. (simp (ne_eqb _ _ e, and-false), simp (ne_eqb _ _ e, and-false)))),
)

pub bad_records : BadRecords
unfolding restored_from
bad_records n l e = rw e refl

-- two answers or numbers, and two buffers, that are what a promise says
pub alike : {A : Type 0} {a e x : A} {c d y : List ℕ} → (a ≡ x) × (c ≡ y) → (e ≡ x) × (d ≡ y) → (a ≡ e) × (c ≡ d)
alike p q = (p.0 ∙ sym q.0, p.1 ∙ sym q.1)

pub settled : Settled
settled = (
  λ s b c d a e. alike,
  λ s b c d a e. alike,
  λ l r q e f. e ∙ sym f,
  λ l r q e f. e ∙ sym f,
)
