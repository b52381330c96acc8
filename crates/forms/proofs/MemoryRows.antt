-- Laws of the byte after a memory form's address, group by group.
use Prim.Native.Nat.{ℕ, ◌/◌, ◌%◌, ◌≤◌, ◌<◌}
use mathlib.Core.Path.{◌≡◌, refl}
use mathlib.Core.List.{List, [], ◌∷◌}
use mathlib.Core.Bool.{cond}
use lib.Dec.{eqb}
use Rattle.little.specs.declared.Size.{Size}
use Rattle.little.specs.declared.Size.TheVariants.{Byte, Word, Long}
use Rattle.code.specs.declared.Op.TheVariants.{Puts}
use Rattle.code.specs.declared.Use.TheVariants.{From, Load, Compute}
use Rattle.code.specs.declared.Side.TheVariants.{First, Second}
use Rattle.code.specs.declared.Operand.{Operand}
use Rattle.code.specs.Said.{whole, unlisted}
use Rattle.code.specs.Rows.{lookup}
use Rattle.code.specs.Registers.{arith_of}
use Rattle.code.specs.Memory.{memory_rows, store_rows}
use Rattle.code.proofs.Groups.{Missed}
use Rattle.code.proofs.Tables.{in_arm, in_run, in_no_arm}

module _ (z : Size) (o : Operand) where
  pub load : (b : ℕ) → b / 8 ≡ 4 → lookup (memory_rows z o) b ≡ whole (Puts (Load (b % 8))) z o
  unfolding memory_rows lookup
  load = in_arm _ _ (4 ∷ []) refl

  -- columns 80 and 88 together have all of 80 to FF
  pub compute : (b : ℕ) → 0x80 ≤ b → b < 0x100 → lookup (memory_rows z o) b ≡ whole (Puts (Compute (arith_of (b / 16 % 8)) (cond (eqb (b / 8 % 2) 1) (Second (b % 8)) (First (b % 8))))) z o
  unfolding memory_rows lookup
  compute = in_run _ _ 0x80 0x80 refl

  no_load : (b : ℕ) → b < 0x80 → Missed ((4 ∷ []) ∷ []) (b / 8) → lookup (memory_rows z o) b ≡ unlisted
  unfolding memory_rows lookup
  no_load = in_no_arm _ (λ b. unlisted) ((4 ∷ []) ∷ []) 0x80 refl

  pub no_memory : (b : ℕ) → b < 0x80 → (b / 8 ≡ 4 → ⊥) → lookup (memory_rows z o) b ≡ unlisted
  no_memory b h m = no_load b h (tt, m)

module _ (o : Operand) where
  pub store_byte : (b : ℕ) → b / 8 ≡ 8 → lookup (store_rows o) b ≡ whole (Puts (From (b % 8))) Byte o
  unfolding store_rows lookup
  store_byte = in_arm _ _ (8 ∷ []) refl

  pub store_word : (b : ℕ) → b / 8 ≡ 10 → lookup (store_rows o) b ≡ whole (Puts (From (b % 8))) Word o
  unfolding store_rows lookup
  store_word = in_arm _ _ (10 ∷ []) refl

  pub store_long : (b : ℕ) → b / 8 ≡ 12 → lookup (store_rows o) b ≡ whole (Puts (From (b % 8))) Long o
  unfolding store_rows lookup
  store_long = in_arm _ _ (12 ∷ []) refl

  -- the arms, last first
  abbrev pub store_arms : List (List ℕ)
  store_arms = (12 ∷ []) ∷ (10 ∷ []) ∷ (8 ∷ []) ∷ []

  pub no_store : (b : ℕ) → b < 256 → Missed store_arms (b / 8) → lookup (store_rows o) b ≡ unlisted
  unfolding store_rows lookup
  no_store = in_no_arm _ (λ b. unlisted) store_arms 256 refl
