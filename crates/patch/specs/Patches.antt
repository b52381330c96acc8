-- What a patcher may put for what (request K10). Each statement is proved in proofs/: Changes, Bytes, Turns, Flags, Filled, Loads or Stack.
use Rattle.std.specs.Prelude.{ℕ, ◌+◌, ◌%◌, ◌^◌, ◌<◌, ◌≤◌, ◌≡◌, List, [], ◌∷◌, ◌++◌, length, replicate, true}
use Rattle.little.specs.{declared.Size.Size, declared.Size.TheVariants.Byte, declared.Size.TheVariants.Long, Width.bytes_of}
use Rattle.alu.specs.{declared.Shift.Shift, Twice.Mergeable}
use Rattle.alu.specs.declared.Shift.TheVariants.{Sla, Sll}
use Rattle.alu.specs.declared.change.Change.TheVariants.{Inc, Dec, ShiftBy}
use Rattle.state.specs.{declared.State.State, State.with_counter, Register.get_register, Sound.Sound}
use Rattle.code.specs.declared.{Operand.Operand, Operand.TheVariants.Register}
use Rattle.code.specs.declared.{Op.TheVariants.Puts, Op.TheVariants.Stacks, Stack.TheVariants.Push, Stack.TheVariants.Pop}
use Rattle.code.specs.declared.Use.TheVariants.{Changed, Load, From}
use Rattle.code.specs.{Rows.no_byte, Range.InRegisters, Written.code_of}
use Rattle.operand.specs.{Try.did, Round.less}
use Rattle.step.specs.Step.{try_of}
use Rattle.facts.specs.{Statements.Passed, Touched.below_stack, Touched.KeepsRest}
use Rattle.patch.specs.Piece.{CodeBegins, LeaveSame}

-- ---- shifts
-- SLA, SRA, SLL or SRL of a register by n places, 1 to 16; the last byte of the code has 16 as 0
abbrev pub shift_code : Shift → Size → Operand → ℕ → List ℕ
shift_code w z o n = code_of (Puts (Changed (ShiftBy w (n % 16)))) z o

-- a places and then b places are a plus b places, for every register that a shift can name
abbrev pub ShiftsMerge : Type 0
ShiftsMerge =
    (w : Shift) (z : Size) (o : Operand) (a b : ℕ) → InRegisters z o → Mergeable 16 a b →
    LeaveSame (shift_code w z o a ∷ shift_code w z o b ∷ []) (shift_code w z o (a + b) ∷ [])

-- SLA is SLL
abbrev pub SlaIsSll : Type 0
SlaIsSll = (z : Size) (o : Operand) (n : ℕ) → InRegisters z o → LeaveSame (shift_code Sla z o n ∷ []) (shift_code Sll z o n ∷ [])

-- RCF, SCF, CCF or ZCF, 10 to 13, before a shift may be left out: a shift reads no flag, and sets them all
abbrev pub ShiftsReadNoFlag : Type 0
ShiftsReadNoFlag =
    (w : Shift) (z : Size) (o : Operand) (n i : ℕ) → InRegisters z o → i < 4 →
    LeaveSame (((0x10 + i) ∷ []) ∷ shift_code w z o n ∷ []) (shift_code w z o n ∷ [])

-- ---- banks, flags, and NOP
abbrev pub nop : List ℕ
nop = 0x00 ∷ []

abbrev pub incf : List ℕ
incf = 0x0C ∷ []

abbrev pub decf : List ℕ
decf = 0x0D ∷ []

abbrev pub exf : List ℕ
exf = 0x16 ∷ []

-- n INCF and then n DECF may be left out, and so may n DECF and then n INCF
abbrev pub BanksReturn : Type 0
BanksReturn = (n : ℕ) → LeaveSame (replicate n incf ++ replicate n decf) [] × LeaveSame (replicate n decf ++ replicate n incf) []

-- two EX F,F' may be left out
abbrev pub ExchangesReturn : Type 0
ExchangesReturn = LeaveSame (exf ∷ exf ∷ []) []

-- and any number of NOP
abbrev pub NopsAreNothing : Type 0
NopsAreNothing = (n : ℕ) → LeaveSame (replicate n nop) []

-- so two shifts may be merged in place, with NOP behind the one that is left
abbrev pub ShiftsMergeInPlace : Type 0
ShiftsMergeInPlace =
    (w : Shift) (z : Size) (o : Operand) (a b n : ℕ) → InRegisters z o → Mergeable 16 a b →
    LeaveSame (shift_code w z o a ∷ shift_code w z o b ∷ []) (shift_code w z o (a + b) ∷ replicate n nop)

-- ---- INC and DEC
-- of a register by n, 1 to 8, which the code has as 0 to 7
abbrev pub inc_code : Size → Operand → ℕ → List ℕ
inc_code z o n = code_of (Puts (Changed (Inc (n % 8)))) z o

abbrev pub dec_code : Size → Operand → ℕ → List ℕ
dec_code z o n = code_of (Puts (Changed (Dec (n % 8)))) z o

-- by a and then by b is by a plus b, for words and longs
abbrev pub CountsMerge : Type 0
CountsMerge =
    (z : Size) (o : Operand) (a b : ℕ) → no_byte z ≡ true → InRegisters z o → Mergeable 8 a b →
    LeaveSame (inc_code z o a ∷ inc_code z o b ∷ []) (inc_code z o (a + b) ∷ []) × LeaveSame (dec_code z o a ∷ dec_code z o b ∷ []) (dec_code z o (a + b) ∷ [])

-- n times by one is by n
abbrev pub OnesAreMany : Type 0
OnesAreMany =
    (z : Size) (o : Operand) (n : ℕ) → no_byte z ≡ true → InRegisters z o → 1 ≤ n → n ≤ 8 →
    LeaveSame (replicate n (inc_code z o 1)) (inc_code z o n ∷ []) × LeaveSame (replicate n (dec_code z o 1)) (dec_code z o n ∷ [])

-- INC and DEC by the same number may be left out
abbrev pub CountsReturn : Type 0
CountsReturn =
    (z : Size) (o : Operand) (n : ℕ) → no_byte z ≡ true → InRegisters z o →
    LeaveSame (inc_code z o n ∷ dec_code z o n ∷ []) [] × LeaveSame (dec_code z o n ∷ inc_code z o n ∷ []) []

-- not so of bytes: A twice by one is not A by two, since H and V are the last step's (alu/Twice)
abbrev pub BytesDoNotMerge : Type 0
BytesDoNotMerge = let a = Register 1 in LeaveSame (inc_code Byte a 1 ∷ inc_code Byte a 1 ∷ []) (inc_code Byte a 2 ∷ []) → ⊥

-- ---- loads
-- LD r,R and LD R,r: what is in the register R, 0 to 7, into the operand, and what is in the operand into R
abbrev pub into_code : Size → Operand → ℕ → List ℕ
into_code z o r = code_of (Puts (From r)) z o

abbrev pub out_of_code : Size → Operand → ℕ → List ℕ
out_of_code z o r = code_of (Puts (Load r)) z o

-- after a load, the load back may be left out
abbrev pub LoadBackIsNothing : Type 0
LoadBackIsNothing =
    (z : Size) (o : Operand) (r : ℕ) → InRegisters z o → r < 8 →
    LeaveSame (into_code z o r ∷ out_of_code z o r ∷ []) (into_code z o r ∷ []) × LeaveSame (out_of_code z o r ∷ into_code z o r ∷ []) (out_of_code z o r ∷ [])

-- ---- the stack
abbrev pub push_code : Size → ℕ → List ℕ
push_code z r = code_of (Stacks Push) z (Register r)

abbrev pub pop_code : Size → ℕ → List ℕ
pop_code z r = code_of (Stacks Pop) z (Register r)

-- RAM holds the n bytes below the stack's end
abbrev pub RoomBelow : State → ℕ → List ℕ → Type 0
RoomBelow s n ram = less 32 (get_register s Long 7) n % 2 ^ 24 + n ≤ length ram

-- PUSH R of a word or a long is done where there is room, and changes RAM below the stack's end alone. Where POP R stands at the counter then,
-- it is done too, and the state is as it was, but for the counter, which is past both
abbrev pub PopUndoesPush : Type 0
PopUndoesPush =
    (z : Size) (r : ℕ) (s : State) (ram rom : List ℕ) → no_byte z ≡ true → r < 7 → Sound s → Passed s ram rom →
    CodeBegins ram rom s.counter (push_code z r) → RoomBelow s (bytes_of z) ram →
    (t : State) × (m : List ℕ) × (try_of s ram rom ≡ did t m) × KeepsRest (below_stack s (bytes_of z)) ram m
    × (CodeBegins m rom t.counter (pop_code z r) → try_of t m rom ≡ did (with_counter s (s.counter + 2)) m)
