-- What holds of every code: statements, each proved in proofs/.
use Rattle.std.specs.Prelude.{ℕ, ◌≤◌, ◌≡◌, true, ◌↔◌, List, [], ◌∷◌, ◌++◌, length, take, Ok, Err}
use Rattle.little.specs.{declared.Size.Size, Bytes.Bytes}
use Rattle.code.specs.{declared.Form.Form, declared.Op.Op, declared.Op.TheVariants.Blocks, declared.Operand.Operand}
use Rattle.code.specs.{declared.Instruction.Instruction, Listed.decode_of, Said.whole_of, Range.in_range, Range.InRange, Written.code_of}
use Rattle.code.specs.declared.Unread.TheVariants.{Short, Unlisted}

-- an instruction has 1 to 7 bytes, and they are all there
abbrev pub LengthFits : Type 0
LengthFits =
    (s : List ℕ) (i : Instruction) → decode_of s ≡ Ok i →
    (1 ≤ i.length) × ((i.length ≤ 7) × (i.length ≤ length s))

-- what comes after it does not matter
abbrev pub WholeStays : Type 0
WholeStays = (s t : List ℕ) (i : Instruction) → decode_of s ≡ Ok i → decode_of (s ++ t) ≡ Ok i

-- its own bytes are enough
abbrev pub OwnBytes : Type 0
OwnBytes = (s : List ℕ) (i : Instruction) → decode_of s ≡ Ok i → decode_of (take i.length s) ≡ Ok i

-- two codes that agree on those bytes are the same instruction
abbrev pub SameStart : Type 0
SameStart =
    (s t : List ℕ) (i : Instruction) → decode_of s ≡ Ok i →
    i.length ≤ length t → take i.length s ≡ take i.length t → decode_of t ≡ Ok i

-- bytes that begin no listed instruction never will
abbrev pub UnlistedStays : Type 0
UnlistedStays = (s t : List ℕ) → decode_of s ≡ Err Unlisted → decode_of (s ++ t) ≡ Err Unlisted

-- bytes that are refused as short do begin a listed instruction
abbrev pub ShortBegins : Type 0
ShortBegins = (s : List ℕ) → decode_of s ≡ Err Short → (t : List ℕ) × (i : Instruction) × (Bytes t) × (decode_of (s ++ t) ≡ Ok i)

-- each code and number is within its range
abbrev pub Ranges : Type 0
Ranges = (s : List ℕ) (i : Instruction) → Bytes s → decode_of s ≡ Ok i → InRange i.op i.size i.operand

-- the range as a test and as a statement
abbrev pub RangeTest : Type 0
RangeTest = (op : Op) (z : Size) (o : Operand) → (in_range op z o ≡ true) ↔ InRange op z o

-- an instruction is within its range exactly where some bytes are that instruction
abbrev pub RangeExact : Type 0
RangeExact =
    (op : Op) (z : Size) (o : Operand) →
    (in_range op z o ≡ true) ↔ ((s : List ℕ) × (n : ℕ) × (Bytes s) × (decode_of s ≡ whole_of op z o n))

-- its length is that of its written bytes
abbrev pub LengthIs : Type 0
LengthIs = (s : List ℕ) (i : Instruction) → decode_of s ≡ Ok i → i.length ≡ length (code_of i.op i.size i.operand)

-- an instruction keeps all that its bytes said
abbrev pub KeepsBytes : Type 0
KeepsBytes = (s : List ℕ) (i : Instruction) → Bytes s → decode_of s ≡ Ok i → take i.length s ≡ code_of i.op i.size i.operand

-- no two codes are the same instruction
abbrev pub NoTwins : Type 0
NoTwins =
    (s t : List ℕ) (i : Instruction) → Bytes s → Bytes t → decode_of s ≡ Ok i → decode_of t ≡ Ok i →
    take i.length s ≡ take i.length t

-- an instruction within its range is what its bytes are, whatever comes after them
abbrev pub ReadsBack : Type 0
ReadsBack =
    (op : Op) (z : Size) (o : Operand) (t : List ℕ) → in_range op z o ≡ true →
    decode_of (code_of op z o ++ t) ≡ whole_of op z o (length (code_of op z o))

-- they are bytes
abbrev pub CodeFits : Type 0
CodeFits = (op : Op) (z : Size) (o : Operand) → in_range op z o ≡ true → Bytes (code_of op z o)

-- no instruction's bytes begin another's, and no two instructions have the same bytes
abbrev pub NoneBegins : Type 0
NoneBegins =
    (op op' : Op) (z z' : Size) (o o' : Operand) (t : List ℕ) → in_range op z o ≡ true → in_range op' z' o' ≡ true →
    code_of op z o ++ t ≡ code_of op' z' o' → (op ≡ op') × (z ≡ z') × (o ≡ o') × (t ≡ [])

-- a copy or a compare has two bytes
abbrev pub BlockLength : Type 0
BlockLength = (s : List ℕ) (i : Instruction) (f : Form) → decode_of s ≡ Ok i → i.op ≡ Blocks f → i.length ≡ 2

-- an instruction of two bytes is known by them
abbrev pub TwoBytes : Type 0
TwoBytes = (b c : ℕ) (s : List ℕ) (i : Instruction) → decode_of (b ∷ c ∷ []) ≡ Ok i → decode_of (b ∷ c ∷ s) ≡ Ok i
