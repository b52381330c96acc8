-- Laws of the copies and compares: the byte 10 to 17 after a form (R).
use Prim.Native.Nat.{ℕ, ◌+◌, ◌/◌, ◌%◌, ◌≤◌, ◌<◌}
use mathlib.Core.Path.{◌≡◌, refl, ap, ◌∙◌}
use mathlib.Core.Bool.{Bool, true, false, cond, ◌&&◌, ◌||◌}
use mathlib.Core.Logic.{inl, inr}
use mathlib.Core.List.{List, [], ◌∷◌, ◌++◌}
use native.Mathlib.Omega.{arith}
use lib.Dec.{leb, eqb}
use types.Run.{OneOf}
use borrow.Author.Tests.{eq-eqb, eqb-false, eqb-true, le-leb, lt-leb, ne_eqb}
use Rattle.little.specs.declared.Size.{Size}
use Rattle.little.specs.declared.Size.TheVariants.{Byte, Word, Long}
use Rattle.code.specs.declared.Operand.{Operand}
use Rattle.code.specs.Said.{Said, unlisted}
use Rattle.code.specs.Rows.{Row, has, lookup}
use Rattle.code.specs.Memory.{memory_rows, store_rows, copies, compares, copy, compare, blocks, block_rows}
use Rattle.code.specs.inner.Parts.{size_of, rows_begun}
use Rattle.code.proofs.Groups.{in_group}
use Rattle.code.proofs.Tables.{in_arm}
use Rattle.code.proofs.Holds.{both_true, either_true}

never : {a b : ℕ} {A : Type 0} → a ≤ b → b < a → A
never h k = let z : ⊥ = omega arith in absurd z

module _ (z : Size) (o : Operand) where
  copies_at :
      (to from : ℕ) (more : List Row) (b : ℕ) → b / 8 ≡ 2 → b < 0x14 →
      lookup (memory_rows z o ++ (copies z to from ++ more)) b ≡ copy z (eqb (b / 2 % 2) 0) (eqb (b % 2) 1) to from
  unfolding memory_rows copies lookup
  copies_at to from more = in_group _ 2 (λ h. refl, λ h. refl, λ h. refl, λ h. refl, never (omega arith), never (omega arith), never (omega arith), never (omega arith))

  none_at : (u : Bool) (r b : ℕ) → b / 8 ≡ 2 → b < 0x14 → lookup (memory_rows z o ++ cond u (compares z r) []) b ≡ unlisted
  unfolding memory_rows compares lookup
  none_at true r = in_group _ 2 (λ h. refl, λ h. refl, λ h. refl, λ h. refl, never (omega arith), never (omega arith), never (omega arith), never (omega arith))
  none_at false r = in_group _ 2 (λ h. refl, λ h. refl, λ h. refl, λ h. refl, λ h. refl, λ h. refl, λ h. refl, λ h. refl)

  compares_at :
      (t u : Bool) (r b : ℕ) → b / 8 ≡ 2 → 0x14 ≤ b →
      lookup (memory_rows z o ++ (cond t (copies z 2 3) (cond u (copies z 4 5) []) ++ compares z r)) b ≡ compare z (eqb (b / 2 % 2) 0) (eqb (b % 2) 1) r
  unfolding memory_rows copies compares lookup
  compares_at true u r = in_group _ 2 (λ h. never h (omega arith), λ h. never h (omega arith), λ h. never h (omega arith), λ h. never h (omega arith), λ h. refl, λ h. refl, λ h. refl, λ h. refl)
  compares_at false true r = in_group _ 2 (λ h. never h (omega arith), λ h. never h (omega arith), λ h. never h (omega arith), λ h. never h (omega arith), λ h. refl, λ h. refl, λ h. refl, λ h. refl)
  compares_at false false r = in_group _ 2 (λ h. never h (omega arith), λ h. never h (omega arith), λ h. never h (omega arith), λ h. never h (omega arith), λ h. refl, λ h. refl, λ h. refl, λ h. refl)

  no_compares_at :
      (t u : Bool) (b : ℕ) → b / 8 ≡ 2 → 0x14 ≤ b →
      lookup (memory_rows z o ++ (cond t (copies z 2 3) (cond u (copies z 4 5) []) ++ [])) b ≡ unlisted
  unfolding memory_rows copies lookup
  no_compares_at true u = in_group _ 2 (λ h. never h (omega arith), λ h. never h (omega arith), λ h. never h (omega arith), λ h. never h (omega arith), λ h. refl, λ h. refl, λ h. refl, λ h. refl)
  no_compares_at false true = in_group _ 2 (λ h. never h (omega arith), λ h. never h (omega arith), λ h. never h (omega arith), λ h. never h (omega arith), λ h. refl, λ h. refl, λ h. refl, λ h. refl)
  no_compares_at false false = in_group _ 2 (λ h. refl, λ h. refl, λ h. refl, λ h. refl, λ h. refl, λ h. refl, λ h. refl, λ h. refl)

module _ (z : Size) (o : Operand) (r b : ℕ) (g : b / 8 ≡ 2) where
  pub copies_hl : b < 0x14 → r ≡ 3 → lookup (memory_rows z o ++ blocks z r) b ≡ copy z (eqb (b / 2 % 2) 0) (eqb (b % 2) 1) 2 3
  unfolding blocks
  copies_hl h e = rw e (copies_at z o 2 3 (compares z 3) b g h)

  pub copies_iy : b < 0x14 → r ≡ 5 → lookup (memory_rows z o ++ blocks z r) b ≡ copy z (eqb (b / 2 % 2) 0) (eqb (b % 2) 1) 4 5
  unfolding blocks
  copies_iy h e = rw e (copies_at z o 4 5 (compares z 5) b g h)

  pub no_copies : b < 0x14 → (r ≡ 3 → ⊥) → (r ≡ 5 → ⊥) → lookup (memory_rows z o ++ blocks z r) b ≡ unlisted
  unfolding blocks
  no_copies h m n = rw (ne_eqb r 3 m, ne_eqb r 5 n) (none_at z o (leb 2 r) r b g h)

  pub compares_r : 0x14 ≤ b → 2 ≤ r → lookup (memory_rows z o ++ blocks z r) b ≡ compare z (eqb (b / 2 % 2) 0) (eqb (b % 2) 1) r
  unfolding blocks
  compares_r h k = rw (le-leb 2 r k) (compares_at z o (eqb r 3) (eqb r 5) r b g h)

  pub no_compares : 0x14 ≤ b → r < 2 → lookup (memory_rows z o ++ blocks z r) b ≡ unlisted
  unfolding blocks
  no_compares h k = rw (lt-leb 2 r k) (no_compares_at z o (eqb r 3) (eqb r 5) b g h)

-- rows that do not list the byte may be left out
left_out : (xs ys : List Row) (b : ℕ) → lookup ys b ≡ unlisted → lookup (xs ++ ys) b ≡ lookup xs b
unfolding lookup
left_out [] ys b e = e
left_out (x ∷ xs) ys b e = ap (λ (r : Said). cond (has x.bytes b) (x.says b) r) (left_out xs ys b e)

nothing : (b : ℕ) → lookup [] b ≡ unlisted
unfolding lookup
nothing b = refl

module _ (b : ℕ) (g : b / 8 ≡ 2 → ⊥) where
  other : (k : ℕ) → k / 8 ≡ 2 → eqb b k ≡ false
  other k h = ne_eqb b k (λ e. g (ap (λ (x : ℕ). x / 8) e ∙ h))

  no_copies_at : (z : Size) (to from : ℕ) → lookup (copies z to from) b ≡ unlisted
  unfolding copies lookup
  no_copies_at z to from = rw (other 0x10 refl, other 0x11 refl, other 0x12 refl, other 0x13 refl)

  no_compares_at' : (z : Size) (r : ℕ) → lookup (compares z r) b ≡ unlisted
  unfolding compares lookup
  no_compares_at' z r = rw (other 0x14 refl, other 0x15 refl, other 0x16 refl, other 0x17 refl)

  no_blocks : (t u v : Bool) (z : Size) (r : ℕ) → lookup (cond t (copies z 2 3) (cond u (copies z 4 5) []) ++ cond v (compares z r) []) b ≡ unlisted
  no_blocks t u v z r = left_out _ _ b (second v) ∙ first t u
    where
      first : (t u : Bool) → lookup (cond t (copies z 2 3) (cond u (copies z 4 5) [])) b ≡ unlisted
      first true u = no_copies_at z 2 3
      first false true = no_copies_at z 4 5
      first false false = nothing b

      second : (v : Bool) → lookup (cond v (compares z r) []) b ≡ unlisted
      second true = no_compares_at' z r
      second false = nothing b

  no_block_rows : (z : Size) (r : ℕ) → lookup (block_rows z r) b ≡ unlisted
  unfolding blocks
  no_block_rows Byte r = no_blocks (eqb r 3) (eqb r 5) (leb 2 r) Byte r
  no_block_rows Word r = no_blocks (eqb r 3) (eqb r 5) (leb 2 r) Word r
  no_block_rows Long r = nothing b

-- ---- the rows after the form that a first byte begins
abbrev pub size_begun : ℕ → Size
size_begun b = size_of (8 + b / 16 % 4)

-- the copies and compares that it may have
abbrev own_rows : ℕ → List Row
own_rows b = cond (eqb (b / 8) 16 || eqb (b / 8) 18 || eqb (b / 8) 20) (block_rows (size_begun b) (b % 8)) []

module _ (o : Operand) (b : ℕ) where
  pub begun_store : b / 16 % 4 ≡ 3 → rows_begun b o ≡ store_rows o
  unfolding rows_begun
  begun_store h = rw (eq-eqb (b / 16 % 4) 3 h)

  begun_other : (b / 16 % 4 ≡ 3 → ⊥) → rows_begun b o ≡ memory_rows (size_begun b) o ++ own_rows b
  unfolding rows_begun
  begun_other h = rw (ne_eqb (b / 16 % 4) 3 h)

rows_at_pointer : (o : Operand) (b : ℕ) → OneOf (16 ∷ 18 ∷ []) (b / 8) → rows_begun b o ≡ memory_rows (size_begun b) o ++ blocks (size_begun b) (b % 8)
unfolding rows_begun size_of
rows_at_pointer o = in_arm _ _ (16 ∷ 18 ∷ []) refl

pub begun_pointer :
    (o : Operand) (b c : ℕ) → eqb (c / 8) 2 && (eqb (b / 8) 16 || eqb (b / 8) 18) ≡ true →
    lookup (rows_begun b o) c ≡ lookup (memory_rows (size_begun b) o ++ blocks (size_begun b) (b % 8)) c
begun_pointer o b c h =
    let k = (both_true (eqb (c / 8) 2) (eqb (b / 8) 16 || eqb (b / 8) 18) h).1 in
    rw (rows_at_pointer o b (elim (either_true (eqb (b / 8) 16) (eqb (b / 8) 18) k) [ inl e ↦ inl (eqb-true (b / 8) 16 e) | inr e ↦ inr (eqb-true (b / 8) 18 e) ]))

-- a long pointer has none of its own
long_rows : (b : ℕ) → b / 8 ≡ 20 → block_rows (size_begun b) (b % 8) ≡ []
unfolding size_of
long_rows = in_arm _ (λ b. []) (20 ∷ []) refl

no_long_lem : (b c : ℕ) → lookup (cond (eqb (b / 8) 20) (block_rows (size_begun b) (b % 8)) []) c ≡ unlisted
no_long_lem b c = go (eqb (b / 8) 20) refl
  where
    go : (t : Bool) → eqb (b / 8) 20 ≡ t → lookup (cond t (block_rows (size_begun b) (b % 8)) []) c ≡ unlisted
    go true e = rw (long_rows b (eqb-true (b / 8) 20 e)) (nothing c)
    go false e = nothing c

no_more : (b c : ℕ) → eqb (c / 8) 2 && (eqb (b / 8) 16 || eqb (b / 8) 18) ≡ false → lookup (own_rows b) c ≡ unlisted
no_more b c = go (eqb (c / 8) 2) refl
  where
    any : (c / 8 ≡ 2 → ⊥) → (u : Bool) (z : Size) (r : ℕ) → lookup (cond u (block_rows z r) []) c ≡ unlisted
    any m true z r = no_block_rows c m z r
    any m false z r = nothing c

    go : (t : Bool) → eqb (c / 8) 2 ≡ t → t && (eqb (b / 8) 16 || eqb (b / 8) 18) ≡ false → lookup (own_rows b) c ≡ unlisted
    go true e f = rw f (no_long_lem b c)
    go false e f = any (eqb-false (c / 8) 2 e) (eqb (b / 8) 16 || eqb (b / 8) 18 || eqb (b / 8) 20) (size_begun b) (b % 8)

pub begun_memory :
    (o : Operand) (b c : ℕ) → (b / 16 % 4 ≡ 3 → ⊥) → eqb (c / 8) 2 && (eqb (b / 8) 16 || eqb (b / 8) 18) ≡ false →
    lookup (rows_begun b o) c ≡ lookup (memory_rows (size_begun b) o) c
begun_memory o b c h m = rw (begun_other o b h) (left_out _ _ c (no_more b c m))

-- a byte that is no copy's or compare's
pub begun_plain : (o : Operand) (b c : ℕ) → (b / 16 % 4 ≡ 3 → ⊥) → (c / 8 ≡ 2 → ⊥) → lookup (rows_begun b o) c ≡ lookup (memory_rows (size_begun b) o) c
begun_plain o b c h m = begun_memory o b c h (rw (ne_eqb (c / 8) 2 m))
