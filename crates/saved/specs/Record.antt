-- A saved state: one record of bytes with no header. The old record is the first 88 bytes of it: it has no nesting count and no marks.
use Rattle.std.specs.Prelude.{ℕ, zero, suc, ◌+◌, ◌-◌, ◌*◌, ◌/◌, ◌%◌, ◌^◌, ◌≡◌, List, [], ◌∷◌, ◌++◌, Bool, cond, ◌&&◌, Ok, Err}
use Rattle.std.specs.Prelude.{length, get_or, take, drop, replicate, eqb}
use Rattle.answer.specs.declared.{Why.Why, Why.TheVariants.Invalid}
use Rattle.little.specs.Bytes.{value_of, bytes_from}
use Rattle.state.specs.{declared.State.State, State.valid_of, State.zero_state, State.f_of, State.marks_of}
use Rattle.state.specs.Sr.{sr_of, f_in, bank_in, level_in, ones_in}
use Rattle.saved.specs.declared.Restored.{Restored}
use Rattle.answer.specs.Number.{Answer}

-- how many bytes it has, and the old one
abbrev pub record_length : ℕ
record_length = 92

abbrev pub old_length : ℕ
old_length = 88

-- numbers of four bytes, one after the other
unfoldable pub longs_bytes : List ℕ → List ℕ
longs_bytes [] = []
longs_bytes (x ∷ xs) = bytes_from 4 x ++ longs_bytes xs

-- the old record: banks 0 to 3 (XWA, XBC, XDE, XHL each), XIX, XIY, XIZ, XSP, the counter in four bytes, SR in two, F' in one, a zero byte
unfoldable pub old_record_of : State → List ℕ
old_record_of s = longs_bytes s.registers ++ (bytes_from 4 s.counter ++ (bytes_from 2 (sr_of s) ++ (f_of s.spare ∷ 0 ∷ [])))

-- the marks in one byte: H and V of F in bits 0 and 1, those of F' in bits 2 and 3
abbrev pub marks_byte : State → ℕ
marks_byte s = marks_of s.flags + 4 * marks_of s.spare

-- the record: the old one, the nesting count in two bytes, the marks, a zero byte
unfoldable pub record_of : State → List ℕ
record_of s = old_record_of s ++ (bytes_from 2 s.nesting ++ (marks_byte s ∷ 0 ∷ []))

-- an old record with zeros for what it lacks: the count 0, no marks, a zero byte
abbrev pub widened : List ℕ → List ℕ
widened old = old ++ replicate (record_length - old_length) 0

-- the part of a record that is an old one
abbrev pub narrowed : List ℕ → List ℕ
narrowed new = take old_length new

-- no mark, and the count 0: the old record leaves nothing of the state out
abbrev pub fits_old : State → Bool
fits_old s = eqb (marks_byte s) 0 && eqb s.nesting 0

-- ---- saving: an invalid state, or a buffer of another length, is refused and leaves the buffer
-- whether a state can be saved in n bytes
abbrev pub can_save : State → ℕ → Bool
can_save s n = valid_of s && eqb n record_length

-- the answer of a save
unfoldable pub save_answer : State → ℕ → Answer
save_answer s n = cond (can_save s n) (Ok tt) (Err Invalid)

-- what the buffer holds after it
unfoldable pub save_bytes : State → List ℕ → List ℕ
save_bytes s buffer = cond (can_save s (length buffer)) (record_of s) buffer

-- what a save promises of its answer a, and of what the buffer holds after it, c
abbrev pub SaveMeets : State → List ℕ → Answer → List ℕ → Type 0
SaveMeets s buffer a c = (a ≡ save_answer s (length buffer)) × (c ≡ save_bytes s buffer)

-- ---- saving in the old form: a state with a mark, or whose count is not 0, is refused too
abbrev pub can_save_old : State → ℕ → Bool
can_save_old s n = valid_of s && (fits_old s && eqb n old_length)

unfoldable pub old_save_answer : State → ℕ → Answer
old_save_answer s n = cond (can_save_old s n) (Ok tt) (Err Invalid)

unfoldable pub old_save_bytes : State → List ℕ → List ℕ
old_save_bytes s buffer = cond (can_save_old s (length buffer)) (old_record_of s) buffer

abbrev pub OldSaveMeets : State → List ℕ → Answer → List ℕ → Type 0
OldSaveMeets s buffer a c = (a ≡ old_save_answer s (length buffer)) × (c ≡ old_save_bytes s buffer)

-- ---- loading, of both forms: what an old record lacks reads as 0, so that it has no marks and the count 0
-- the first n numbers of four bytes
unfoldable pub longs_at : ℕ → List ℕ → List ℕ
longs_at zero l = []
longs_at (suc n) l = value_of (take 4 l) ∷ longs_at n (drop 4 l)

-- SR of a record
abbrev pub sr_at : List ℕ → ℕ
sr_at l = value_of (take 2 (drop 84 l))

-- the nesting count of a record: in an old one nothing follows byte 87, and the number with no bytes is 0
abbrev pub nesting_at : List ℕ → ℕ
nesting_at l = value_of (take 2 (drop 88 l))

-- the marks of a record
abbrev pub marks_at : List ℕ → ℕ
marks_at l = get_or l 90 0

-- what stands in a record
unfoldable pub state_at : List ℕ → State
state_at l = record {
  registers = longs_at 20 l;
  counter = value_of (take 4 (drop 80 l));
  bank = bank_in (sr_at l);
  level = level_in (sr_at l);
  flags = f_in (sr_at l) + 2 ^ 8 * (marks_at l % 4);
  spare = get_or l 86 0 + 2 ^ 8 * (marks_at l / 4);
  nesting = nesting_at l;
}

-- byte i is zero, or is not there
abbrev pub zero_at : ℕ → List ℕ → Bool
zero_at i l = eqb (get_or l i 0) 0

-- the ones of SR, and the zero bytes
abbrev pub fixed_at : List ℕ → Bool
fixed_at l = ones_in (sr_at l) && (zero_at 87 l && zero_at 91 l)

-- of n bytes, and with no bit that no valid state has
abbrev pub is_record_of : ℕ → List ℕ → Bool
is_record_of n l = eqb (length l) n && (valid_of (state_at l) && fixed_at l)

-- a refusal, with the all-zero state in the place of one; of a bad record it is 2
abbrev pub refused_record : Why → Restored
refused_record w = record { answer = Err w; state = zero_state }

-- what a load of a record of n bytes gives
unfoldable pub restored_from : ℕ → List ℕ → Restored
restored_from n l = cond (is_record_of n l) (record { answer = Ok tt; state = state_at l }) (refused_record Invalid)

-- of a record, and of an old one
abbrev pub is_record : List ℕ → Bool
is_record l = is_record_of record_length l

abbrev pub restored_of : List ℕ → Restored
restored_of l = restored_from record_length l

abbrev pub is_old_record : List ℕ → Bool
is_old_record l = is_record_of old_length l

abbrev pub old_restored_of : List ℕ → Restored
old_restored_of l = restored_from old_length l

-- what a load promises of its result r
abbrev pub LoadMeets : List ℕ → Restored → Type 0
LoadMeets l r = r ≡ restored_of l

abbrev pub OldLoadMeets : List ℕ → Restored → Type 0
OldLoadMeets l r = r ≡ old_restored_of l
