-- The bytes that an instruction is read from: it keeps all that they said.
use Rattle.std.specs.Prelude.{ℕ, ◌+◌, ◌*◌, List, [], ◌∷◌, ◌++◌, Bool, cond}
use Rattle.little.specs.{declared.Size.Size, Bytes.bytes_from, Width.bytes_of}
use Rattle.little.specs.declared.Size.TheVariants.{Byte, Word, Long}
use Rattle.alu.specs.declared.{Arith.Arith, Shift.Shift, change.Change.Change}
use Rattle.alu.specs.declared.Arith.TheVariants.{Add, Adc, Sub, Sbc, And, Xor, Or, Cp}
use Rattle.alu.specs.declared.Shift.TheVariants.{Sla, Sra, Sll, Srl}
use Rattle.alu.specs.declared.change.Change.TheVariants.{Inc, Dec, ShiftBy, Extz, Exts}
use Rattle.feed.specs.declared.scale.{Scale.Scale, Scale.TheVariants.Mul, Scale.TheVariants.Muls, Scale.TheVariants.Div, Scale.TheVariants.Divs}
use Rattle.feed.specs.declared.cycle.{Cycle.Cycle, Stride.Stride, Stride.TheVariants.One, Stride.TheVariants.Two, Stride.TheVariants.Four}
use Rattle.feed.specs.declared.cycle.Cycle.TheVariants.{Minc, Mdec}
use Rattle.code.specs.declared.{Op.Op, Control.Control, Stack.Stack, Interrupt.Interrupt, Use.Use, Side.Side, Base.Base, Operand.Operand}
use Rattle.code.specs.declared.Op.TheVariants.{Controls, Stacks, Puts, Sets, Blocks, Interrupts}
use Rattle.code.specs.declared.Control.TheVariants.{Nop, Incf, Decf, Ldf, Rcf, Scf, Ccf, Zcf, Exf, Jp16, Jp24, Jr, Jrl, Ei}
use Rattle.code.specs.declared.Stack.TheVariants.{PushF, PopF, Push, Pop, Call16, Call24, Calr, Ret}
use Rattle.code.specs.declared.Interrupt.TheVariants.{PushSr, PopSr, Reti}
use Rattle.code.specs.declared.Use.TheVariants.{Number, From, Load, Compute, Changed, Scaled, ScaledWith, Cycled}
use Rattle.code.specs.declared.Side.TheVariants.{First, Second, With}
use Rattle.code.specs.declared.Base.TheVariants.{Indirect, Displaced, Absolute8, Absolute16, Absolute24}
use Rattle.code.specs.declared.Operand.TheVariants.{Register, Named, Constant, Memory}

-- 10H in a code's first byte for each step of the size
abbrev pub size_step : Size → ℕ
size_step Byte = 0
size_step Word = 16
size_step Long = 32

-- the number of an operation in its code
abbrev pub arith_number : Arith → ℕ
arith_number Add = 0
arith_number Adc = 1
arith_number Sub = 2
arith_number Sbc = 3
arith_number And = 4
arith_number Xor = 5
arith_number Or = 6
arith_number Cp = 7

-- the number of a shift in its code
abbrev pub shift_number : Shift → ℕ
shift_number Sla = 0
shift_number Sra = 1
shift_number Sll = 2
shift_number Srl = 3

-- the number of a multiplication or division, and of a step of 1, 2 and 4
abbrev pub scale_number : Scale → ℕ
scale_number Mul = 0
scale_number Muls = 1
scale_number Div = 2
scale_number Divs = 3

abbrev pub stride_number : Stride → ℕ
stride_number One = 0
stride_number Two = 1
stride_number Four = 2

-- the code, 0 to 7, of the register that an operand is; 0 where it is none
abbrev pub register_in : Operand → ℕ
register_in (Register r) = r
register_in (Named c) = 0
register_in (Constant v) = 0
register_in (Memory m) = 0

-- the number that an operand is; 0 where it is none
abbrev pub constant_in : Operand → ℕ
constant_in (Register r) = 0
constant_in (Named c) = 0
constant_in (Constant v) = v
constant_in (Memory m) = 0

-- a memory form, in the row of its size or of the stores
abbrev pub base_code : ℕ → Base → ℕ → List ℕ
base_code g (Indirect r) v = (0x80 + g + r) ∷ []
base_code g (Displaced r) v = (0x88 + g + r) ∷ bytes_from 1 v
base_code g Absolute8 v = (0xC0 + g) ∷ bytes_from 1 v
base_code g Absolute16 v = (0xC1 + g) ∷ bytes_from 2 v
base_code g Absolute24 v = (0xC2 + g) ∷ bytes_from 3 v

-- the first byte of an operand's form, and its code byte or the bytes of its number; g says the group of the size
abbrev pub place_code : ℕ → Operand → List ℕ
place_code g (Register r) = (0xC8 + g + r) ∷ []
place_code g (Named c) = (0xC7 + g) ∷ c ∷ []
place_code g (Constant v) = []
place_code g (Memory m) = base_code g m.base m.number

-- 88+R after a register, 20+R after a memory form
abbrev pub load_code : Operand → ℕ
load_code (Register r) = 0x88
load_code (Named c) = 0x88
load_code (Constant v) = 0
load_code (Memory m) = 0x20

-- the second byte of a copy or a compare
abbrev pub block_code : Bool → Bool → Bool → ℕ
block_code copies up again = 0x10 + cond copies 0 4 + cond up 0 2 + cond again 1 0

-- an operation on two operands, after the operand's bytes: 80, 90 .. F0 +R, 88, 98 .. F8 +R, or C8 to CF and a constant
abbrev pub side_code : Arith → Side → Size → List ℕ
side_code a (First r) z = (0x80 + 16 * arith_number a + r) ∷ []
side_code a (Second r) z = (0x88 + 16 * arith_number a + r) ∷ []
side_code a (With n) z = (0xC8 + arith_number a) ∷ bytes_from (bytes_of z) n

-- a change, after the operand's bytes
abbrev pub change_code : Change → List ℕ
change_code (Inc n) = (0x60 + n) ∷ []
change_code (Dec n) = (0x68 + n) ∷ []
change_code (ShiftBy kind n) = (0xEC + shift_number kind) ∷ n ∷ []
change_code Extz = 0x12 ∷ []
change_code Exts = 0x13 ∷ []

-- MINC and MDEC, after the operand's bytes
abbrev pub cycle_code : Cycle → List ℕ
cycle_code (Minc s last) = (0x38 + stride_number s) ∷ bytes_from 2 last
cycle_code (Mdec s last) = (0x3C + stride_number s) ∷ bytes_from 2 last

-- a register into the operand: 98+R after a register; 40+R, 50+R, 60+R after a memory form in the row of the stores
abbrev pub from_code : ℕ → Size → Operand → List ℕ
from_code r z (Register n) = place_code (size_step z) (Register n) ++ ((0x98 + r) ∷ [])
from_code r z (Named c) = place_code (size_step z) (Named c) ++ ((0x98 + r) ∷ [])
from_code r z (Constant v) = []
from_code r z (Memory m) = place_code 48 (Memory m) ++ ((0x40 + size_step z + r) ∷ [])

-- the bytes of an instruction, by the kind of work
abbrev pub control_code : Control → Operand → List ℕ
control_code Nop o = 0x00 ∷ []
control_code Incf o = 0x0C ∷ []
control_code Decf o = 0x0D ∷ []
control_code Ldf o = 0x17 ∷ constant_in o ∷ []
control_code Rcf o = 0x10 ∷ []
control_code Scf o = 0x11 ∷ []
control_code Ccf o = 0x12 ∷ []
control_code Zcf o = 0x13 ∷ []
control_code Exf o = 0x16 ∷ []
control_code Jp16 o = 0x1A ∷ bytes_from 2 (constant_in o)
control_code Jp24 o = 0x1B ∷ bytes_from 3 (constant_in o)
control_code (Jr cc) o = (0x60 + cc) ∷ bytes_from 1 (constant_in o)
control_code (Jrl cc) o = (0x70 + cc) ∷ bytes_from 2 (constant_in o)
control_code Ei o = 0x06 ∷ constant_in o ∷ []

abbrev pub stack_code : Stack → Size → Operand → List ℕ
stack_code PushF z o = 0x18 ∷ []
stack_code PopF z o = 0x19 ∷ []
stack_code Push z o = (0x18 + size_step z + register_in o) ∷ []
stack_code Pop z o = (0x38 + size_step z + register_in o) ∷ []
stack_code Call16 z o = 0x1C ∷ bytes_from 2 (constant_in o)
stack_code Call24 z o = 0x1D ∷ bytes_from 3 (constant_in o)
stack_code Calr z o = 0x1E ∷ bytes_from 2 (constant_in o)
stack_code Ret z o = 0x0E ∷ []

abbrev pub interrupt_code : Interrupt → List ℕ
interrupt_code PushSr = 0x02 ∷ []
interrupt_code PopSr = 0x03 ∷ []
interrupt_code Reti = 0x07 ∷ []

abbrev pub use_code : Use → Size → Operand → List ℕ
use_code (Number n) z o = place_code (size_step z) o ++ (0x03 ∷ bytes_from (bytes_of z) n)
use_code (From r) z o = from_code r z o
use_code (Load r) z o = place_code (size_step z) o ++ ((load_code o + r) ∷ [])
use_code (Compute a other) z o = place_code (size_step z) o ++ side_code a other z
use_code (Changed how) z o = place_code (size_step z) o ++ change_code how
use_code (Scaled how r) z o = place_code (size_step z) o ++ ((0x40 + 8 * scale_number how + r) ∷ [])
use_code (ScaledWith how n) z o = place_code (size_step z) o ++ ((0x08 + scale_number how) ∷ bytes_from (bytes_of z) n)
use_code (Cycled how) z o = place_code (size_step z) o ++ cycle_code how

unfoldable pub code_of : Op → Size → Operand → List ℕ
code_of (Controls what) z o = control_code what o
code_of (Stacks what) z o = stack_code what z o
code_of (Puts how) z o = use_code how z o
code_of (Sets r) z o = (0x20 + size_step z + r) ∷ bytes_from (bytes_of z) (constant_in o)
code_of (Blocks f) z o = (0x80 + size_step z + f.from) ∷ block_code f.copies f.up f.again ∷ []
code_of (Interrupts what) z o = interrupt_code what
