-- Loads, stores, operations on two operands, changes of one (alu/Change), products and quotients (feed/Scale) and modulo steps (feed/Cycle):
-- what is put, and where.
use Rattle.std.specs.Prelude.{ℕ, ◌/◌, List, Bool, true, false, cond}
use Rattle.little.specs.{declared.Size.Size, Width.bits_of, Width.twice_of}
use Rattle.flags.specs.declared.Computed.{Computed}
use Rattle.alu.specs.{declared.Arith.Arith, Operation.operated, Change.changed}
use Rattle.alu.specs.declared.Arith.TheVariants.{Add, Adc, Sub, Sbc, And, Xor, Or, Cp}
use Rattle.feed.specs.{declared.scale.Scale.Scale, Scale.scaled, Cycle.cycled}
use Rattle.code.specs.declared.{Use.Use, Operand.Operand, Operand.TheVariants.Register}
use Rattle.code.specs.declared.Use.TheVariants.{Number, From, Load, Compute, Changed, Scaled, ScaledWith, Cycled}
use Rattle.code.specs.declared.Side.TheVariants.{First, Second, With}
use Rattle.state.specs.{declared.State.State, Register.get_register, Register.set_register}
use Rattle.operand.specs.{Try.Try, Try.did, Try.with_loaded, Operand.value_at, Operand.put_at, Operand.wide_of, Flag.flags_in, Flag.flagged}

-- the operation on a and b, with the carry of the state
abbrev pub computed : State → Arith → Size → ℕ → ℕ → Computed
computed s op z a b = operated op (bits_of z) a b (flags_in s).c

-- the result put where the operand is, and the flags set
abbrev pub result_in : State → List ℕ → List ℕ → Size → Operand → Computed → Try
result_in s ram rom z o r = put_at (flagged s r.flags) ram rom z o r.value

-- CP puts nothing
abbrev pub stores_of : Arith → Bool
stores_of Add = true
stores_of Adc = true
stores_of Sub = true
stores_of Sbc = true
stores_of And = true
stores_of Xor = true
stores_of Or = true
stores_of Cp = false

-- the result and the flags of an operation, or of CP the flags alone
abbrev pub answer_in : Arith → State → List ℕ → List ℕ → Size → Operand → Computed → Try
answer_in op s ram rom z o r = cond (stores_of op) (result_in s ram rom z o r) (did (flagged s r.flags) ram)

-- MUL to DIVS of an operand w, which has twice the bytes of a size, by v. k is half of its bits: of a byte and a word their own
unfoldable pub scaled_at : Scale → Size → Operand → ℕ → State → List ℕ → List ℕ → Try
scaled_at how z w v s ram rom =
    let k = bits_of (twice_of z) / 2 in
    with_loaded (value_at s ram rom (twice_of z) w) (λ x. result_in s ram rom (twice_of z) w (scaled how k x v (flags_in s)))

-- what each puts, of a size and with its operand; the state is past the instruction
unfoldable pub puts_of : Use → Size → Operand → State → List ℕ → List ℕ → Try
puts_of (Number n) z o s ram rom = put_at s ram rom z o n
puts_of (From r) z o s ram rom = put_at s ram rom z o (get_register s z r)
puts_of (Load r) z o s ram rom = with_loaded (value_at s ram rom z o) (λ v. did (set_register s z r v) ram)
puts_of (Compute op (First r)) z o s ram rom =
    with_loaded (value_at s ram rom z o) (λ v. answer_in op s ram rom z (Register r) (computed s op z (get_register s z r) v))
puts_of (Compute op (Second r)) z o s ram rom =
    with_loaded (value_at s ram rom z o) (λ v. answer_in op s ram rom z o (computed s op z v (get_register s z r)))
puts_of (Compute op (With n)) z o s ram rom =
    with_loaded (value_at s ram rom z o) (λ v. answer_in op s ram rom z o (computed s op z v n))
puts_of (Changed how) z o s ram rom =
    with_loaded (value_at s ram rom z o) (λ v. result_in s ram rom z o (changed how (bits_of z) v (flags_in s)))
puts_of (Scaled how r) z o s ram rom = with_loaded (value_at s ram rom z o) (λ v. scaled_at how z (wide_of z (Register r)) v s ram rom)
puts_of (ScaledWith how n) z o s ram rom = scaled_at how z (wide_of z o) n s ram rom
puts_of (Cycled how) z o s ram rom = with_loaded (value_at s ram rom z o) (λ v. put_at s ram rom z o (cycled how (bits_of z) v))
