-- What is proved of lists and of rows of code, beside what each function promises. Each statement is proved in proofs/.
use Rattle.std.specs.Prelude.{ℕ, ◌*◌, ◌<◌, ◌≤◌, ◌≡◌, Bool, true, false, ◌↔◌, List, [], ◌∷◌, ◌++◌, length, drop, get_or, replicate, Ok, Err}
use Rattle.little.specs.Bytes.{Bytes}
use Rattle.code.specs.{declared.Instruction.Instruction, Listed.decode_of}
use Rattle.encode.specs.One.{bytes_in, is_listed, end_of, Written, Writes}
use Rattle.encode.specs.declared.Refusal.TheVariants.{Short, Unlisted, NoList, NoRoom}
use Rattle.row.specs.Row.{most, row_of, all_listed, can_write, row_read, blank}
use Rattle.code.specs.declared.Unread.TheVariants as unread

-- ---- one instruction
-- no two listed instructions have the same bytes, and no one's bytes begin another's
abbrev pub NoneBegins : Type 0
NoneBegins =
    (i j : Instruction) (t : List ℕ) → is_listed i ≡ true → is_listed j ≡ true → bytes_in i ++ t ≡ bytes_in j → (i ≡ j) × (t ≡ [])

-- a listed instruction is what its bytes are read as, whatever comes behind them; and they are 1 to 7
abbrev pub ReadsBack : Type 0
ReadsBack = (i : Instruction) (t : List ℕ) → is_listed i ≡ true → decode_of (bytes_in i ++ t) ≡ Ok i

abbrev pub FewBytes : Type 0
FewBytes = (i : Instruction) → is_listed i ≡ true → (1 ≤ length (bytes_in i)) × (length (bytes_in i) ≤ 7) × Bytes (bytes_in i)

-- what is read of bytes is a listed instruction, and its bytes are those that were read
abbrev pub ReadIsListed : Type 0
ReadIsListed = (s : List ℕ) (i : Instruction) → Bytes s → decode_of s ≡ Ok i → (is_listed i ≡ true) × (s ≡ bytes_in i ++ drop i.length s)

-- ---- a list
-- the code s, read from start to end, is this list
abbrev pub ReadsAs : List ℕ → List Instruction → Type 0
ReadsAs s [] = s ≡ []
ReadsAs s (i ∷ l) = (decode_of s ≡ Ok i) × ReadsAs (drop i.length s) l

-- a list that is written, read from start to end, is that list
abbrev pub WrittenReads : Type 0
WrittenReads = (l : List Instruction) → all_listed l ≡ true → ReadsAs (row_of l) l

-- and no other; so no two lists have the same bytes
abbrev pub OneReading : Type 0
OneReading = (s : List ℕ) (l m : List Instruction) → ReadsAs s l → ReadsAs s m → l ≡ m

abbrev pub OneList : Type 0
OneList = (l m : List Instruction) → all_listed l ≡ true → all_listed m ≡ true → row_of l ≡ row_of m → l ≡ m

-- code that is read as a list is the list's bytes, and each of the list is listed
abbrev pub ReadsWritten : Type 0
ReadsWritten = (s : List ℕ) (l : List Instruction) → Bytes s → ReadsAs s l → (all_listed l ≡ true) × (row_of l ≡ s)

-- a list has 1 to 7 bytes for each instruction
abbrev pub FewInRow : Type 0
FewInRow = (l : List Instruction) → all_listed l ≡ true → (length l ≤ length (row_of l)) × (length (row_of l) ≤ 7 * length l) × Bytes (row_of l)

-- ---- the reading finds that list and no other, where it has at most 64
abbrev pub ReadFinds : Type 0
ReadFinds =
    (s : List ℕ) (l : List Instruction) →
    (row_read most s ≡ Ok l) ↔ (ReadsAs s l × (length l ≤ most))

-- a list that can be written is read again from its bytes
abbrev pub ReadsAgain : Type 0
ReadsAgain = (l : List Instruction) → can_write l ≡ true → row_read most (row_of l) ≡ Ok l

-- the code s is a list's bytes and something behind them
abbrev pub Begins : List ℕ → List Instruction → List ℕ → Type 0
Begins s l t = (all_listed l ≡ true) × (s ≡ row_of l ++ t) × (0 < length t)

-- each refusal in its case and in no other: 3 or 4 where it is forced behind fewer than 64 instructions, and 30 where bytes are left
-- behind 64; there is then no list
abbrev pub ReadRefused : Type 0
ReadRefused =
    (s : List ℕ) → Bytes s →
    ((row_read most s ≡ Err Short) ↔ ((l : List Instruction) × (t : List ℕ) × Begins s l t × (length l < most) × (decode_of t ≡ Err unread.Short)))
    × ((row_read most s ≡ Err Unlisted) ↔ ((l : List Instruction) × (t : List ℕ) × Begins s l t × (length l < most) × (decode_of t ≡ Err unread.Unlisted)))
    × ((row_read most s ≡ Err NoList) ↔ ((l : List Instruction) × (t : List ℕ) × Begins s l t × (length l ≡ most)))

-- ---- the writing
-- 30 where the list has more than 64 or one that is not listed, whatever the room; then 31 where the room is too short
abbrev pub WriteEnds : Type 0
WriteEnds =
    (l : List Instruction) (room : ℕ) →
    (most < length l → end_of (can_write l) (length (row_of l)) room ≡ Err NoList)
    × (all_listed l ≡ false → end_of (can_write l) (length (row_of l)) room ≡ Err NoList)
    × (length l ≤ most → all_listed l ≡ true → room < length (row_of l) → end_of (can_write l) (length (row_of l)) room ≡ Err NoRoom)
    × (length l ≤ most → all_listed l ≡ true → length (row_of l) ≤ room → end_of (can_write l) (length (row_of l)) room ≡ Ok (length (row_of l)))

-- one that is not listed is somewhere in the list
abbrev pub NotListed : Type 0
NotListed =
    (l : List Instruction) →
    (all_listed l ≡ false) ↔ ((k : ℕ) × (k < length l) × (is_listed (get_or l k blank) ≡ false))

-- two outcomes of a writing that meet its promise are the same
abbrev pub Settled : Type 0
Settled =
    (good : Bool) (s room b c : List ℕ) (t u : Written) → Writes good s room t b → Writes good s room u c → (t ≡ u) × (b ≡ c)

-- ---- both ends of a list's length, with NOP: none, 64, and 65
abbrev pub Ends : Type 0
Ends =
    (end_of (can_write []) (length (row_of [])) 0 ≡ Ok 0)
    × (row_read most [] ≡ Ok [])
    × (end_of (can_write (replicate 64 blank)) (length (row_of (replicate 64 blank))) 64 ≡ Ok 64)
    × (end_of (can_write (replicate 64 blank)) (length (row_of (replicate 64 blank))) 63 ≡ Err NoRoom)
    × (row_read most (replicate 64 0) ≡ Ok (replicate 64 blank))
    × (end_of (can_write (replicate 65 blank)) (length (row_of (replicate 65 blank))) 64 ≡ Err NoList)
    × (end_of (can_write (replicate 65 blank)) (length (row_of (replicate 65 blank))) 65 ≡ Err NoList)
    × (row_read most (replicate 65 0) ≡ Err NoList)
