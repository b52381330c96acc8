-- The flags that an instruction decides by or stores, the bytes that it reads and those that it stores to, and what it answers by them.
use Rattle.std.specs.Prelude.{ℕ, ◌+◌, ◌<◌, ◌≤◌, ◌%◌, ◌^◌, ◌≡◌, List, Bool, true, false, cond, ◌&&◌, ◌⊎◌, length, get_or, Ok, Err}
use Rattle.answer.specs.Number.{first_refusal}
use Rattle.little.specs.{declared.Size.Size, declared.Size.TheVariants.Long, Width.bytes_of, Width.twice_of}
use Rattle.memory.specs.{declared.Place.Place, Access.store_to, Place.place_of}
use Rattle.memory.specs.declared.Place.TheVariants.{Ram, Rom, Missing}
use Rattle.state.specs.{declared.State.State, Register.get_register}
use Rattle.flags.specs.{Condition.reads_marked, Flag.any_marked}
use Rattle.code.specs.declared.{Operand.Operand, Op.Op, Control.Control, Stack.Stack, Interrupt.Interrupt, Use.Use}
use Rattle.code.specs.declared.Operand.TheVariants.{Register, Named, Constant, Memory}
use Rattle.code.specs.declared.Op.TheVariants.{Controls, Stacks, Puts, Sets, Blocks, Interrupts}
use Rattle.code.specs.declared.Control.TheVariants.{Nop, Incf, Decf, Ldf, Rcf, Scf, Ccf, Zcf, Exf, Jp16, Jp24, Jr, Jrl, Ei}
use Rattle.code.specs.declared.Stack.TheVariants.{PushF, PopF, Push, Pop, Call16, Call24, Calr, Ret}
use Rattle.code.specs.declared.Interrupt.TheVariants.{PushSr, PopSr, Reti}
use Rattle.code.specs.declared.Use.TheVariants.{Number, From, Load, Compute, Changed, Scaled, ScaledWith, Cycled}
use Rattle.code.specs.declared.Side.TheVariants.{First, Second, With}
use Rattle.operand.specs.{Operand.pointer_of, Operand.address_of, Round.less, Flag.flags_in}
use Rattle.compute.specs.Compute.{stores_of}
use Rattle.answer.specs.declared.Why.TheVariants as why
use Rattle.answer.specs.Number.{Answer}

-- ---- flags
-- the condition that an instruction decides by; 0, never, where it has none
abbrev pub condition_in : Control → ℕ
condition_in Nop = 0
condition_in Incf = 0
condition_in Decf = 0
condition_in Ldf = 0
condition_in Rcf = 0
condition_in Scf = 0
condition_in Ccf = 0
condition_in Zcf = 0
condition_in Exf = 0
condition_in Jp16 = 0
condition_in Jp24 = 0
condition_in (Jr cc) = cc
condition_in (Jrl cc) = cc
condition_in Ei = 0

-- PUSH F stores F
abbrev pub stores_f : Stack → Bool
stores_f PushF = true
stores_f PopF = false
stores_f Push = false
stores_f Pop = false
stores_f Call16 = false
stores_f Call24 = false
stores_f Calr = false
stores_f Ret = false

-- and PUSH SR, whose low byte F is
abbrev pub stores_sr : Interrupt → Bool
stores_sr PushSr = true
stores_sr PopSr = false
stores_sr Reti = false

-- it decides by a marked flag, or stores one
unfoldable pub uses_marked : Op → State → Bool
uses_marked (Controls what) s = reads_marked (flags_in s) (condition_in what)
uses_marked (Stacks what) s = stores_f what && any_marked (flags_in s)
uses_marked (Puts how) s = false
uses_marked (Sets r) s = false
uses_marked (Blocks f) s = false
uses_marked (Interrupts what) s = stores_sr what && any_marked (flags_in s)

-- ---- bytes
-- no byte, or so many bytes from an address on
pub data Span : Type 0 where
  none : Span
  bytes : ℕ → ℕ → Span

-- a register and a constant have no bytes in memory
abbrev pub operand_span : State → Size → Operand → Span
operand_span s z (Register r) = none
operand_span s z (Named c) = none
operand_span s z (Constant n) = none
operand_span s z (Memory m) = bytes (address_of s m) (bytes_of z)

-- n bytes from the stack's end on
abbrev pub on_stack : State → ℕ → Span
on_stack s n = bytes (pointer_of s 7) n

-- the n bytes below the stack's end
abbrev pub below_stack : State → ℕ → Span
below_stack s n = bytes (less 32 (get_register s Long 7) n % 2 ^ 24) n

-- what an instruction reads: a pop or a return the stack, a copy or a compare its element, the others their operand.
-- The state is past the instruction.
abbrev pub stack_read : Stack → Size → State → Span
stack_read PushF z s = none
stack_read PopF z s = on_stack s 1
stack_read Push z s = none
stack_read Pop z s = on_stack s (bytes_of z)
stack_read Call16 z s = none
stack_read Call24 z s = none
stack_read Calr z s = none
stack_read Ret z s = on_stack s 4

abbrev pub interrupt_read : Interrupt → State → Span
interrupt_read PushSr s = none
interrupt_read PopSr s = on_stack s 2
interrupt_read Reti s = on_stack s 6

-- MUL to DIVS with a number take twice as much of their operand as its size says
abbrev pub taken_size : Use → Size → Size
taken_size (Number n) z = z
taken_size (From r) z = z
taken_size (Load r) z = z
taken_size (Compute op other) z = z
taken_size (Changed how) z = z
taken_size (Scaled how r) z = z
taken_size (ScaledWith how n) z = twice_of z
taken_size (Cycled how) z = z

abbrev pub use_span : State → Use → Size → Operand → Span
use_span s how z o = operand_span s (taken_size how z) o

abbrev pub use_read : Use → Span → Span
use_read (Number n) operand = none
use_read (From r) operand = none
use_read (Load r) operand = operand
use_read (Compute op other) operand = operand
use_read (Changed how) operand = operand
use_read (Scaled how r) operand = operand
use_read (ScaledWith how n) operand = operand
use_read (Cycled how) operand = operand

unfoldable pub read_of : Op → Size → Operand → State → Span
read_of (Controls what) z o s = none
read_of (Stacks what) z o s = stack_read what z s
read_of (Puts how) z o s = use_read how (use_span s how z o)
read_of (Sets r) z o s = none
read_of (Blocks f) z o s = bytes (pointer_of s f.from) (bytes_of f.size)
read_of (Interrupts what) z o s = interrupt_read what s

-- where it stores: a push or a call below the stack, a copy at its other pointer, the others at their operand; CP nowhere
abbrev pub stack_stored : Stack → Size → State → Span
stack_stored PushF z s = below_stack s 1
stack_stored PopF z s = none
stack_stored Push z s = below_stack s (bytes_of z)
stack_stored Pop z s = none
stack_stored Call16 z s = below_stack s 4
stack_stored Call24 z s = below_stack s 4
stack_stored Calr z s = below_stack s 4
stack_stored Ret z s = none

abbrev pub interrupt_stored : Interrupt → State → Span
interrupt_stored PushSr s = below_stack s 2
interrupt_stored PopSr s = none
interrupt_stored Reti s = none

abbrev pub use_stored : Use → Span → Span
use_stored (Number n) operand = operand
use_stored (From r) operand = operand
use_stored (Load r) operand = none
use_stored (Compute op (First r)) operand = none
use_stored (Compute op (Second r)) operand = cond (stores_of op) operand none
use_stored (Compute op (With n)) operand = cond (stores_of op) operand none
use_stored (Changed how) operand = operand
use_stored (Scaled how r) operand = none
use_stored (ScaledWith how n) operand = operand
use_stored (Cycled how) operand = operand

unfoldable pub stored_of : Op → Size → Operand → State → Span
stored_of (Controls what) z o s = none
stored_of (Stacks what) z o s = stack_stored what z s
stored_of (Puts how) z o s = use_stored how (use_span s how z o)
stored_of (Sets r) z o s = none
stored_of (Blocks f) z o s = cond f.copies (bytes (pointer_of s f.to) (bytes_of f.size)) none
stored_of (Interrupts what) z o s = interrupt_stored what s

-- what is read has to be there
abbrev pub load_to : Place → Answer
load_to (Ram o) = Ok tt
load_to (Rom o) = Ok tt
load_to (Missing x) = Err (why.Missing x)

-- 5, and the missing byte's address, where the bytes to be read are not whole in one memory
abbrev pub read_answer : List ℕ → List ℕ → Span → Answer
read_answer ram rom none = Ok tt
read_answer ram rom (bytes a n) = load_to (place_of (length ram) (length rom) a n)

-- what is stored has to be there, and in RAM
abbrev pub store_answer : List ℕ → List ℕ → Span → Answer
store_answer ram rom none = Ok tt
store_answer ram rom (bytes a n) = store_to (place_of (length ram) (length rom) a n) a

-- 5 for the read comes first, then 5 for the store, then 6
unfoldable pub operands_answer : List ℕ → List ℕ → Span → Span → Answer
operands_answer ram rom read target = first_refusal (read_answer ram rom read) (store_answer ram rom target)

-- 8 for a marked flag comes before these
abbrev pub answer_by : Bool → Answer → Answer
answer_by marked operands = cond marked (Err why.Undefined) operands

-- two memories of one length that differ at most in a span
abbrev pub KeepsRest : Span → List ℕ → List ℕ → Type 0
KeepsRest none ram m = m ≡ ram
KeepsRest (bytes a n) ram m = (length m ≡ length ram) × ((i : ℕ) → (i < a) ⊎ (a + n ≤ i) → get_or m i 0 ≡ get_or ram i 0)
