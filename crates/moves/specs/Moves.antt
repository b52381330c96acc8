-- A record moved from the old form to the new one, and back (request K9): what each call answers, and what the room for the other record holds then.
use Rattle.std.specs.Prelude.{ℕ, ◌≡◌, List, cond, ◌&&◌, length, eqb, Ok, Err}
use Rattle.answer.specs.{declared.Why.TheVariants.Invalid, declared.Why.TheVariants.NoOldForm, Number.number_of, Number.where_done}
use Rattle.saved.specs.Record.{record_length, old_length, widened, narrowed, fits_old, state_at, is_record, is_old_record}
use Rattle.answer.specs.Number.{Answer}

-- ---- an old record to the new form
-- 2 for a bad record, or where the size of the room is not that of a new one
unfoldable pub widen_answer : List ℕ → ℕ → Answer
widen_answer old size = cond (is_old_record old && eqb size record_length) (Ok tt) (Err Invalid)

-- what the room holds after it: the same bytes, then the count, the marks and the last byte, all zero. A refusal leaves what was there
unfoldable pub widen_bytes : List ℕ → List ℕ → List ℕ
widen_bytes old room = where_done (widen_answer old (length room)) (widened old) room

-- ---- a new record to the old form
-- 2 for a bad record, or where the size of the room is not that of an old one; then 10, where the count or the marks are not zero
unfoldable pub narrow_answer : List ℕ → ℕ → Answer
narrow_answer new size = cond (is_record new && eqb size old_length) (cond (fits_old (state_at new)) (Ok tt) (Err NoOldForm)) (Err Invalid)

-- what the room holds after it: the first 88 bytes. A refusal leaves what was there
unfoldable pub narrow_bytes : List ℕ → List ℕ → List ℕ
narrow_bytes new room = where_done (narrow_answer new (length room)) (narrowed new) room

-- ---- the promise of each call, of its number and of the bytes b of the room afterwards
abbrev pub CWidenMeets : List ℕ → List ℕ → ℕ → List ℕ → Type 0
CWidenMeets old room number b = (number ≡ number_of (widen_answer old (length room))) × (b ≡ widen_bytes old room)

abbrev pub CNarrowMeets : List ℕ → List ℕ → ℕ → List ℕ → Type 0
CNarrowMeets new room number b = (number ≡ number_of (narrow_answer new (length room))) × (b ≡ narrow_bytes new room)
