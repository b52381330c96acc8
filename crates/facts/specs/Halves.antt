-- Lower halves (request K7): proved in proofs/Halves.antt.
use Rattle.std.specs.Prelude.{ℕ, ◌≡◌, true, List, Ok}
use Rattle.little.specs.{declared.Size.Size, Width.bits_of, Width.twice_of}
use Rattle.flags.specs.Width.{low}
use Rattle.state.specs.declared.State.{State}
use Rattle.code.specs.{declared.Operand.Operand, Registers.is_low, Range.InRegisters}
use Rattle.operand.specs.Operand.{value_at, wide_of}

-- a register that is listed as a lower half holds the low bits of what its wider one holds, whatever the state
abbrev pub LowerHalf : Type 0
LowerHalf =
    (z : Size) (o : Operand) (s : State) (ram rom : List ℕ) → InRegisters z o → is_low z o ≡ true →
    (x : ℕ) × (value_at s ram rom (twice_of z) (wide_of z o) ≡ Ok x) × (value_at s ram rom z o ≡ Ok (low (bits_of z) x))
