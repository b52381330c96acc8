-- A list of instructions in a row (request K11): its bytes, how a writing of them ends, and what a row of code is read as.
use Rattle.std.specs.Prelude.{ℕ, zero, suc, ◌-◌, List, [], ◌∷◌, ◌++◌, Bool, true, ◌&&◌, cond, length, take, drop, replicate, leb, eqb, Result, Ok, Err}
use Rattle.little.specs.declared.Size.TheVariants.{Byte}
use Rattle.code.specs.{declared.Instruction.Instruction, Listed.decode_of}
use Rattle.code.specs.declared.{Op.TheVariants.Controls, Control.TheVariants.Nop, Operand.TheVariants.Constant}
use Rattle.encode.specs.{declared.Refusal.Refusal, One.bytes_in, One.is_listed}
use Rattle.encode.specs.declared.Refusal.TheVariants.{Short, Unlisted, NoList}
use Rattle.row.specs.declared.Instructions.{Instructions}
use Rattle.code.specs.Unread.{Decoded}
use Rattle.code.specs.declared.Unread.TheVariants as unread

-- a list has at most so many
abbrev pub most : ℕ
most = 64

-- the bytes of a list, one instruction behind the other
unfoldable pub row_of : List Instruction → List ℕ
row_of [] = []
row_of (i ∷ l) = bytes_in i ++ row_of l

-- whether each is a listed one
unfoldable pub all_listed : List Instruction → Bool
all_listed [] = true
all_listed (i ∷ l) = is_listed i && all_listed l

-- whether a list can be written
unfoldable pub can_write : List Instruction → Bool
can_write l = leb (length l) most && all_listed l

-- ---- what a code is read as: the list, or why there is none
abbrev pub Reading : Type 0
Reading = Result (List Instruction) Refusal

-- instructions, and behind them what the rest is read as; nothing where that is refused
unfoldable pub before : List Instruction → Reading → Reading
before l (Ok m) = Ok (l ++ m)
before l (Err why) = Err why

-- what follows an instruction that was read; 3 or 4 where a byte forces it
unfoldable pub behind_first : Decoded → (ℕ → Reading) → Reading
behind_first (Ok i) rest = before (i ∷ []) (rest i.length)
behind_first (Err unread.Short) rest = Err Short
behind_first (Err unread.Unlisted) rest = Err Unlisted

-- nothing where no byte is left
abbrev pub unless_ended : List ℕ → Reading → Reading
unless_ended s r = cond (eqb (length s) 0) (Ok []) r

-- from start to end, where n more can be held: 30 where bytes are left behind the last of them, which are not judged
unfoldable pub row_read : ℕ → List ℕ → Reading
row_read zero s = unless_ended s (Err NoList)
row_read (suc n) s = unless_ended s (behind_first (decode_of s) (λ k. row_read n (drop k s)))

-- ---- a list as it is held: the first `count` of 64 places. Where the count is more than 64, it is a list of more than 64
abbrev pub list_in : Instructions → List Instruction
list_in t = take t.count t.held

-- whether it can be written
unfoldable pub is_list : Instructions → Bool
is_list t = leb t.count most && all_listed (list_in t)

-- a place that is not used holds NOP
abbrev pub blank : Instruction
blank = record { op = Controls Nop; size = Byte; operand = Constant 0; length = 1 }

unfoldable pub held_as : List Instruction → Instructions
held_as l = record { held = l ++ replicate (most - length l) blank; count = length l }

-- what reading gives
abbrev pub reading_of : Reading → Result Instructions Refusal
reading_of (Ok l) = Ok (held_as l)
reading_of (Err why) = Err why
