-- What a whole instruction can hold: each code and number within its range, its size and its operand of its kind.
use Rattle.std.specs.Prelude.{ℕ, ◌<◌, ◌^◌, ◌≡◌, Bool, true, false, ◌&&◌, ◌||◌, ◌⊎◌, ltb, eqb}
use Rattle.little.specs.{declared.Size.Size, Width.bytes_of}
use Rattle.alu.specs.declared.change.Change.{Change}
use Rattle.alu.specs.declared.change.Change.TheVariants.{Inc, Dec, ShiftBy, Extz, Exts}
use Rattle.state.specs.Named.{is_named}
use Rattle.feed.specs.Cycle.{is_table}
use Rattle.feed.specs.declared.cycle.{Cycle.Cycle, Cycle.TheVariants.Minc, Cycle.TheVariants.Mdec}
use Rattle.code.specs.Rows.{only_byte, only_word, no_byte, no_long}
use Rattle.code.specs.Registers.{is_low}
use Rattle.code.specs.declared.{Form.Form, Op.Op, Control.Control, Stack.Stack, Interrupt.Interrupt, Use.Use, Side.Side, Base.Base, Operand.Operand}
use Rattle.code.specs.declared.Op.TheVariants.{Controls, Stacks, Puts, Sets, Blocks, Interrupts}
use Rattle.code.specs.declared.Control.TheVariants.{Nop, Incf, Decf, Ldf, Rcf, Scf, Ccf, Zcf, Exf, Jp16, Jp24, Jr, Jrl, Ei}
use Rattle.code.specs.declared.Stack.TheVariants.{PushF, PopF, Push, Pop, Call16, Call24, Calr, Ret}
use Rattle.code.specs.declared.Interrupt.TheVariants.{PushSr, PopSr, Reti}
use Rattle.code.specs.declared.Use.TheVariants.{Number, From, Load, Compute, Changed, Scaled, ScaledWith, Cycled}
use Rattle.code.specs.declared.Side.TheVariants.{First, Second, With}
use Rattle.code.specs.declared.Base.TheVariants.{Indirect, Displaced, Absolute8, Absolute16, Absolute24}
use Rattle.code.specs.declared.Operand.TheVariants.{Register, Named, Constant, Memory}

infix 50 ◌below◌ ◌equals◌
infixr 40 ◌and◌
infixr 30 ◌or◌
-- a range as data, so that it is written once, and both computed and proved from
pub data Range : Type 0 where
  never : Range
  always : Range
  ◌below◌ : ℕ → ℕ → Range
  ◌equals◌ : ℕ → ℕ → Range
  ◌and◌ : Range → Range → Range
  ◌or◌ : Range → Range → Range

-- what a range says
abbrev pub Holds : Range → Type 0
Holds never = ⊥
Holds always = Unit {0}
Holds (a below b) = a < b
Holds (a equals b) = a ≡ b
Holds (p and q) = Holds p × Holds q
Holds (p or q) = Holds p ⊎ Holds q

-- whether it holds
abbrev pub holds : Range → Bool
holds never = false
holds always = true
holds (a below b) = ltb a b
holds (a equals b) = eqb a b
holds (p and q) = holds p && holds q
holds (p or q) = holds p || holds q

-- a register below n
abbrev pub register_below : ℕ → Operand → Range
register_below n (Register r) = r below n
register_below n (Named c) = never
register_below n (Constant v) = never
register_below n (Memory m) = never

-- a constant below n
abbrev pub constant_below : ℕ → Operand → Range
constant_below n (Register r) = never
constant_below n (Named c) = never
constant_below n (Constant v) = v below n
constant_below n (Memory m) = never

-- the register of a base is 0 to 7, and its number fits its bytes
abbrev pub base_range : Base → ℕ → Range
base_range (Indirect r) v = r below 8 and v equals 0
base_range (Displaced r) v = r below 8 and v below 256
base_range Absolute8 v = v below 256
base_range Absolute16 v = v below 256 ^ 2
base_range Absolute24 v = v below 256 ^ 3

-- a memory form
abbrev pub memory_range : Operand → Range
memory_range (Register r) = never
memory_range (Named c) = never
memory_range (Constant v) = never
memory_range (Memory m) = base_range m.base m.number

-- a test, as a range
abbrev pub that : Bool → Range
that true = always
that false = never

-- a register of a size: one of the eight, or what a code byte names
abbrev pub register_range : Size → Operand → Range
register_range z (Register r) = r below 8
register_range z (Named c) = c below 256 and that (is_named (bytes_of z) c)
register_range z (Constant v) = never
register_range z (Memory m) = never

-- the same as a statement
abbrev pub InRegisters : Size → Operand → Type 0
InRegisters z o = Holds (register_range z o)

-- a register of a size, or a memory form
abbrev pub place_range : Size → Operand → Range
place_range z (Register r) = register_range z (Register r)
place_range z (Named c) = register_range z (Named c)
place_range z (Constant v) = never
place_range z (Memory m) = base_range m.base m.number

-- a copy goes to XDE from XHL or to XIX from XIY; a compare reads at XDE to XSP
abbrev pub pointer_range : Bool → ℕ → ℕ → Range
pointer_range true to from = to equals 2 and from equals 3 or to equals 4 and from equals 5
pointer_range false to from = to equals from and 1 below from and from below 8

-- the form (R) of the pointer r
abbrev pub points_at : ℕ → Base → Range
points_at r (Indirect n) = n equals r
points_at r (Displaced n) = never
points_at r Absolute8 = never
points_at r Absolute16 = never
points_at r Absolute24 = never

-- the operand of a copy or a compare is the form (R) of the pointer that is read
abbrev pub block_operand : ℕ → Operand → Range
block_operand r (Register n) = never
block_operand r (Named c) = never
block_operand r (Constant v) = never
block_operand r (Memory m) = points_at r m.base and m.number equals 0

-- a copy or a compare: its pointers, its size and its operand
abbrev pub block_range : Form → Size → Operand → Range
block_range f z o = pointer_range f.copies f.to f.from and that (no_long z) and bytes_of f.size equals bytes_of z and block_operand f.from o

-- an operation that has neither an operand nor a size
abbrev pub alone_range : Size → Operand → Range
alone_range z o = that (only_byte z) and constant_below 1 o

-- an operation that has a constant of n bytes and no size of its own
abbrev pub constant_range : ℕ → Size → Operand → Range
constant_range n z o = that (only_byte z) and constant_below (256 ^ n) o

-- an operation that has a byte 00 to 07
abbrev pub up_to_seven_range : Size → Operand → Range
up_to_seven_range z o = that (only_byte z) and constant_below 8 o

-- what the numbers, the size and the operand of each operation can be, by the kind of work
abbrev pub control_range : Control → Size → Operand → Range
control_range Nop z o = alone_range z o
control_range Incf z o = alone_range z o
control_range Decf z o = alone_range z o
control_range Ldf z o = up_to_seven_range z o
control_range Rcf z o = alone_range z o
control_range Scf z o = alone_range z o
control_range Ccf z o = alone_range z o
control_range Zcf z o = alone_range z o
control_range Exf z o = alone_range z o
control_range Jp16 z o = constant_range 2 z o
control_range Jp24 z o = constant_range 3 z o
control_range (Jr cc) z o = cc below 16 and constant_range 1 z o
control_range (Jrl cc) z o = cc below 16 and constant_range 2 z o
control_range Ei z o = up_to_seven_range z o

abbrev pub stack_range : Stack → Size → Operand → Range
stack_range PushF z o = alone_range z o
stack_range PopF z o = alone_range z o
stack_range Push z o = that (no_byte z) and register_below 7 o
stack_range Pop z o = that (no_byte z) and register_below 7 o
stack_range Call16 z o = constant_range 2 z o
stack_range Call24 z o = constant_range 3 z o
stack_range Calr z o = constant_range 2 z o
stack_range Ret z o = alone_range z o

abbrev pub interrupt_range : Interrupt → Size → Operand → Range
interrupt_range PushSr z o = alone_range z o
interrupt_range PopSr z o = alone_range z o
interrupt_range Reti z o = alone_range z o

abbrev pub side_range : Side → Size → Operand → Range
side_range (First r) z o = r below 8 and place_range z o
side_range (Second r) z o = r below 8 and memory_range o
side_range (With n) z o = n below 256 ^ bytes_of z and register_range z o

abbrev pub change_range : Change → Size → Range
change_range (Inc n) z = n below 8
change_range (Dec n) z = n below 8
change_range (ShiftBy kind n) z = n below 16
change_range Extz z = that (no_byte z)
change_range Exts z = that (no_byte z)

-- MINC and MDEC: words alone, and a number that 000 allows, less the step
abbrev pub cycle_range : Cycle → Size → Range
cycle_range (Minc s last) z = that (only_word z) and that (is_table s last)
cycle_range (Mdec s last) z = that (only_word z) and that (is_table s last)

abbrev pub use_range : Use → Size → Operand → Range
use_range (Number n) z o = n below 256 ^ bytes_of z and register_range z o
use_range (From r) z o = r below 8 and place_range z o
use_range (Load r) z o = r below 8 and place_range z o
use_range (Compute a other) z o = side_range other z o
use_range (Changed how) z o = change_range how z and register_range z o
use_range (Scaled how r) z o = r below 8 and that (is_low z (Register r)) and register_range z o
use_range (ScaledWith how n) z o = n below 256 ^ bytes_of z and that (is_low z o) and register_range z o
use_range (Cycled how) z o = cycle_range how z and register_range z o

abbrev pub range_of : Op → Size → Operand → Range
range_of (Controls what) z o = control_range what z o
range_of (Stacks what) z o = stack_range what z o
range_of (Puts how) z o = use_range how z o
range_of (Sets r) z o = r below 8 and constant_below (256 ^ bytes_of z) o
range_of (Blocks f) z o = block_range f z o
range_of (Interrupts what) z o = interrupt_range what z o

-- whether some listed code is this instruction
abbrev pub in_range : Op → Size → Operand → Bool
in_range op z o = holds (range_of op z o)

-- the same as a statement
abbrev pub InRange : Op → Size → Operand → Type 0
InRange op z o = Holds (range_of op z o)
