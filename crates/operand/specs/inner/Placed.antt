-- An operand in the registers, by where it begins.
use Rattle.std.specs.Prelude.{◌+◌, ◌%◌, ◌<◌, ◌≤◌, ◌≡◌, Bool, false, eqb}
use Rattle.little.specs.{declared.Size.Size, Width.bytes_of, Width.bits_of}
use Rattle.little.specs.declared.Size.TheVariants.{Byte, Word, Long}
use Rattle.state.specs.declared.{Bank.Bank, named.Field.Field}
use Rattle.state.specs.{Named.byte_named, Named.Bits, Named.bits, Named.nowhere, Named.named, Named.code_for, inner.Field.field_at}
use Rattle.code.specs.declared.Operand.{Operand}
use Rattle.code.specs.declared.Operand.TheVariants.{Register, Named, Constant, Memory}

-- the part of the registers that an operand of a size is: a register 0 to 7 by the code that it has
-- in state/Named, another one by its own
unfoldable pub placed : Bank → Size → Operand → Bits
placed bank z (Register r) = named (bank.0 % 4) (bytes_of z) (code_for z (r % 8))
placed bank z (Named c) = named (bank.0 % 4) (bytes_of z) c
placed bank z (Constant n) = nowhere
placed bank z (Memory m) = nowhere

-- where it begins; past the twenty where it is none
abbrev pub field_of : Bank → Size → Operand → Field
field_of bank z (Register r) = field_at (byte_named (bank.0 % 4) (code_for z (r % 8)))
field_of bank z (Named c) = field_at (byte_named (bank.0 % 4) c)
field_of bank z (Constant n) = record { index = 20; start = 0 }
field_of bank z (Memory m) = record { index = 20; start = 0 }

-- an operand of a size is the part that begins there, within one of the twenty
pub record BeginsAt (bank : Bank) (z : Size) (o : Operand) (f : Field) : Type 0 where
  pub there : placed bank z o ≡ bits f.index f.start (bits_of z)
  pub known : f.index < 20
  pub within : f.start + bits_of z ≤ 32

-- whether what begins at a field is the lower half of what is twice as wide
abbrev pub low_at : Size → Field → Bool
low_at Byte f = eqb (f.start % 16) 0
low_at Word f = eqb (f.start % 32) 0
low_at Long f = false
