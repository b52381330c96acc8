use Prim.Native.Nat.{ℕ, ◌%◌, ◌<◌}
use mathlib.Core.Path.{◌≡◌, refl}
use native.Mathlib.Omega.{arith}
use Rattle.little.specs.declared.Size.{Size}
use Rattle.little.specs.declared.Size.TheVariants.{Byte, Word, Long}
use Rattle.state.specs.declared.named.Field.{Field}
use Rattle.state.specs.Register.{index_of}
use Rattle.state.specs.Named.{byte_named, code_for}
use Rattle.state.specs.inner.Field.{field_at}
use Rattle.state.proofs.Fields.{byte_field, long_field}
use Rattle.state.proofs.named.of_register.Goals as goal

pub returns-in-Byte : goal.returns-in-Byte
returns-in-Byte c = let a = c.args in rw c.in-Byte.is (byte_field (a.bank.0 % 4) (a.r % 8) (omega arith))

-- a word or a long
no_byte_lem :
    (b r : ℕ) → r < 8 → (z : Size) → (z ≡ Byte → ⊥) → ◌≡◌ {A = Field} (record { index = index_of b r; start = 0 }) (field_at (byte_named b (code_for z r)))
no_byte_lem b r h Byte k = absurd (k refl)
no_byte_lem b r h Word k = long_field b r h
no_byte_lem b r h Long k = long_field b r h

pub returns : goal.returns
returns c = let a = c.args in rw c.index_of.ensures (no_byte_lem (a.bank.0 % 4) (a.r % 8) (omega arith) a.size c.in_default.not-Byte)
