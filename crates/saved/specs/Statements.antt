-- What is proved of saving and loading, beside what each call promises. Each statement is proved in proofs/RoundTrip.antt, Refusals.antt or Marked.antt.
use Rattle.std.specs.Prelude.{ℕ, ◌≡◌, true, false, ◌⊎◌, List, [], ◌∷◌, length, drop, get_or, set, replicate, Ok, Err}
use Rattle.answer.specs.declared.Why.TheVariants.{Invalid}
use Rattle.little.specs.Bytes.{Bytes}
use Rattle.state.specs.{declared.State.State, State.zero_state, State.with_nesting, State.with_both_flags, State.clear, State.valid_of, Sound.Sound}
use Rattle.saved.specs.Record.{record_length, old_length, record_of, old_record_of, widened, narrowed, fits_old, save_answer, save_bytes, SaveMeets}
use Rattle.saved.specs.Record.{old_save_answer, old_save_bytes, OldSaveMeets, marks_at, state_at, is_record_of, is_record, is_old_record}
use Rattle.saved.specs.Record.{restored_from, restored_of, old_restored_of, LoadMeets, OldLoadMeets}
use Rattle.saved.specs.declared.Restored.{Restored}
use Rattle.answer.specs.Number.{Answer}

-- the old record is the front of the new one; where the state has no marks and the count 0, the rest is zeros
abbrev pub FrontIsOld : Type 0
FrontIsOld =
    (s : State) → Sound s → (narrowed (record_of s) ≡ old_record_of s) × (fits_old s ≡ true → record_of s ≡ widened (old_record_of s))

-- a saved state reads back as itself; in the old form, one with no marks and the count 0
abbrev pub SavedReadsBack : Type 0
SavedReadsBack =
    (s : State) → Sound s → valid_of s ≡ true →
    (restored_of (record_of s) ≡ record { answer = Ok tt; state = s })
    × (fits_old s ≡ true → old_restored_of (old_record_of s) ≡ record { answer = Ok tt; state = s })

-- the good records are those of valid states, and no others: each is written again as itself
abbrev pub RecordsAreOfStates : Type 0
RecordsAreOfStates =
    ((s : State) → Sound s → valid_of s ≡ true → is_record (record_of s) ≡ true)
    × ((l : List ℕ) → Bytes l → is_record l ≡ true → (valid_of (state_at l) ≡ true) × (record_of (state_at l) ≡ l))

-- the good old records are those of valid states with no marks and the count 0, and no others
abbrev pub OldRecordsAreOfStates : Type 0
OldRecordsAreOfStates =
    ((s : State) → Sound s → valid_of s ≡ true → fits_old s ≡ true → is_old_record (old_record_of s) ≡ true)
    × ((l : List ℕ) → Bytes l → is_old_record l ≡ true →
    (valid_of (state_at l) ≡ true) × (fits_old (state_at l) ≡ true) × (old_record_of (state_at l) ≡ l))

-- the record of the all-zero state has no bit but the two ones of SR
abbrev pub ZeroRecord : Type 0
ZeroRecord = record_of zero_state ≡ set (replicate record_length 0) 85 0x88

-- what stands behind the old record, worked out: the count 201H low byte first, the marks of V in F and of H in F', a zero byte
abbrev pub TailWorked : Type 0
TailWorked = drop old_length (record_of (with_nesting (with_both_flags zero_state 0x200 0x100) 0x201)) ≡ 0x01 ∷ 0x02 ∷ 0x06 ∷ 0x00 ∷ []

-- a save is done for a valid state and a record's length, and leaves the record; any other is 2 and leaves the buffer
abbrev pub Saves : Type 0
Saves =
    (s : State) (b : List ℕ) →
    ((valid_of s ≡ true) → (length b ≡ record_length) → (save_answer s (length b) ≡ Ok tt) × (save_bytes s b ≡ record_of s))
    × (((valid_of s ≡ false) ⊎ (length b ≡ record_length → ⊥)) → (save_answer s (length b) ≡ Err Invalid) × (save_bytes s b ≡ b))

-- in the old form the same, and a state with a mark, or whose count is not 0, is 2 and leaves the buffer
abbrev pub OldSaves : Type 0
OldSaves =
    (s : State) (b : List ℕ) →
    ((valid_of s ≡ true) → (fits_old s ≡ true) → (length b ≡ old_length) →
    (old_save_answer s (length b) ≡ Ok tt) × (old_save_bytes s b ≡ old_record_of s))
    × ((valid_of s ≡ false) ⊎ ((fits_old s ≡ false) ⊎ (length b ≡ old_length → ⊥)) →
    (old_save_answer s (length b) ≡ Err Invalid) × (old_save_bytes s b ≡ b))

-- what is no good record, of either length, is 2, and gives the all-zero state
abbrev pub BadRecords : Type 0
BadRecords = (n : ℕ) (l : List ℕ) → is_record_of n l ≡ false → restored_from n l ≡ record { answer = Err Invalid; state = zero_state }

-- bit `flag` of the byte at an offset is a flag's, and bit `mark` of the marks is its mark: where both are 1 the record is bad
abbrev pub BadWhereMarked : List ℕ → ℕ → ℕ → ℕ → Type 0
BadWhereMarked l offset flag mark = clear flag (get_or l offset 0) ≡ false → clear mark (marks_at l) ≡ false → is_record l ≡ false

-- H and V of F, and of F'
abbrev pub MarkedOnesAreBad : Type 0
MarkedOnesAreBad =
    (l : List ℕ) → Bytes l → BadWhereMarked l 84 4 0 × BadWhereMarked l 84 2 1 × BadWhereMarked l 86 4 2 × BadWhereMarked l 86 2 3

-- two outcomes of a save, or of a load, that meet what it promises are the same
abbrev pub Settled : Type 0
Settled =
    ((s : State) (b c d : List ℕ) (a e : Answer) → SaveMeets s b a c → SaveMeets s b e d → (a ≡ e) × (c ≡ d))
    × ((s : State) (b c d : List ℕ) (a e : Answer) → OldSaveMeets s b a c → OldSaveMeets s b e d → (a ≡ e) × (c ≡ d))
    × ((l : List ℕ) (r q : Restored) → LoadMeets l r → LoadMeets l q → r ≡ q)
    × ((l : List ℕ) (r q : Restored) → OldLoadMeets l r → OldLoadMeets l q → r ≡ q)
