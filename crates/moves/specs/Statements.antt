-- What is proved of the two calls, beside what each promises. Each statement is proved in proofs/Moved.antt or Laws.antt.
use Rattle.std.specs.Prelude.{ℕ, ◌≡◌, true, false, ◌⊎◌, List, length, Ok, Err}
use Rattle.little.specs.Bytes.{Bytes}
use Rattle.answer.specs.declared.{Why.TheVariants.Invalid, Why.TheVariants.NoOldForm}
use Rattle.state.specs.{declared.State.State, State.valid_of, Sound.Sound}
use Rattle.saved.specs.Record.{record_length, old_length, record_of, old_record_of, widened, narrowed, fits_old}
use Rattle.saved.specs.Record.{nesting_at, marks_at, is_record, is_old_record, restored_of, old_restored_of}
use Rattle.moves.specs.Moves.{widen_answer, widen_bytes, narrow_answer, narrow_bytes, CWidenMeets, CNarrowMeets}

-- ---- each number in its stated case and in no other; a refusal leaves the room as it was
abbrev pub Widens : Type 0
Widens =
    (old room : List ℕ) →
    (is_old_record old ≡ true → length room ≡ record_length → (widen_answer old (length room) ≡ Ok tt) × (widen_bytes old room ≡ widened old))
    × ((is_old_record old ≡ false) ⊎ (length room ≡ record_length → ⊥) →
    (widen_answer old (length room) ≡ Err Invalid) × (widen_bytes old room ≡ room))

-- back: 2 before 10, which is given where the count or the marks are not zero
abbrev pub Narrows : Type 0
Narrows =
    (new room : List ℕ) → Bytes new →
    (is_record new ≡ true → length room ≡ old_length → nesting_at new ≡ 0 → marks_at new ≡ 0 →
    (narrow_answer new (length room) ≡ Ok tt) × (narrow_bytes new room ≡ narrowed new))
    × (is_record new ≡ true → length room ≡ old_length → (nesting_at new ≡ 0 → ⊥) ⊎ (marks_at new ≡ 0 → ⊥) →
    (narrow_answer new (length room) ≡ Err NoOldForm) × (narrow_bytes new room ≡ room))
    × ((is_record new ≡ false) ⊎ (length room ≡ old_length → ⊥) →
    (narrow_answer new (length room) ≡ Err Invalid) × (narrow_bytes new room ≡ room))

-- ---- either way and back gives the same bytes: after a move that was done the way back is not refused, in a room of the right length
abbrev pub WidensBack : Type 0
WidensBack =
    (old room back : List ℕ) → Bytes old → widen_answer old (length room) ≡ Ok tt → length back ≡ old_length →
    (narrow_answer (widen_bytes old room) (length back) ≡ Ok tt) × (narrow_bytes (widen_bytes old room) back ≡ old)

abbrev pub NarrowsBack : Type 0
NarrowsBack =
    (new room back : List ℕ) → Bytes new → narrow_answer new (length room) ≡ Ok tt → length back ≡ record_length →
    (widen_answer (narrow_bytes new room) (length back) ≡ Ok tt) × (widen_bytes (narrow_bytes new room) back ≡ new)

-- ---- a move keeps the state: a move and a load is a load
abbrev pub MovedLoads : Type 0
MovedLoads =
    ((old room : List ℕ) → Bytes old → widen_answer old (length room) ≡ Ok tt → restored_of (widen_bytes old room) ≡ old_restored_of old)
    × ((new room : List ℕ) → Bytes new → narrow_answer new (length room) ≡ Ok tt → old_restored_of (narrow_bytes new room) ≡ restored_of new)

-- and a save and a move is a save in the other form; a state that the old form cannot hold is 10, and leaves the room
abbrev pub MovedSaves : Type 0
MovedSaves =
    (s : State) (room : List ℕ) → Sound s → valid_of s ≡ true →
    (fits_old s ≡ true → length room ≡ record_length →
    (widen_answer (old_record_of s) (length room) ≡ Ok tt) × (widen_bytes (old_record_of s) room ≡ record_of s))
    × (fits_old s ≡ true → length room ≡ old_length →
    (narrow_answer (record_of s) (length room) ≡ Ok tt) × (narrow_bytes (record_of s) room ≡ old_record_of s))
    × (fits_old s ≡ false → length room ≡ old_length →
    (narrow_answer (record_of s) (length room) ≡ Err NoOldForm) × (narrow_bytes (record_of s) room ≡ room))

-- two outcomes of a move that meet its promise are the same
abbrev pub Settled : Type 0
Settled =
    ((old room b c : List ℕ) (n m : ℕ) → CWidenMeets old room n b → CWidenMeets old room m c → (n ≡ m) × (b ≡ c))
    × ((new room b c : List ℕ) (n m : ℕ) → CNarrowMeets new room n b → CNarrowMeets new room m c → (n ≡ m) × (b ≡ c))
