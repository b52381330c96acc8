-- A byte is what its row makes of it.
use Prim.Native.Nat.{ℕ, zero, suc, ◌+◌, ◌*◌, ◌/◌, ◌%◌, ◌≤◌, ◌<◌}
use mathlib.Core.Path.{◌≡◌, refl}
use mathlib.Core.Bool.{Bool, true, false, ◌&&◌}
use native.Mathlib.Omega.{arith}
use native.Mathlib.Nat.{mod-lt}
use lib.Dec.{leb, eqb}
use borrow.Author.Tests.{leb-true, eqb-true}
use Rattle.code.specs.Registers.{arith_of, shift_kind}
use Rattle.code.specs.Written.{arith_number, shift_number}

-- a byte of a run
pub run_in : (lo hi b : ℕ) → leb lo b && leb b hi ≡ true → (lo ≤ b) × (b ≤ hi)
run_in lo hi b = go (leb lo b) (leb b hi) refl refl
  where
    go : (t u : Bool) → leb lo b ≡ t → leb b hi ≡ u → t && u ≡ true → (lo ≤ b) × (b ≤ hi)
    go true true e f h = (leb-true lo b e, leb-true b hi f)
    go true false e f h = let z : ◌≡◌ {A = ℕ} 0 1 = cc in let y : ⊥ = omega arith in absurd y
    go false u e f h = let z : ◌≡◌ {A = ℕ} 0 1 = cc in let y : ⊥ = omega arith in absurd y

-- a byte of columns
pub columns_in : (lo b : ℕ) → leb lo b && leb b 0xFF && eqb (b / 8 % 2) (lo / 8 % 2) ≡ true → ((lo ≤ b) × (b ≤ 0xFF)) × (b / 8 % 2 ≡ lo / 8 % 2)
columns_in lo b = go (leb lo b && leb b 0xFF) (eqb (b / 8 % 2) (lo / 8 % 2)) refl refl
  where
    go : (t u : Bool) → leb lo b && leb b 0xFF ≡ t → eqb (b / 8 % 2) (lo / 8 % 2) ≡ u → t && u ≡ true → ((lo ≤ b) × (b ≤ 0xFF)) × (b / 8 % 2 ≡ lo / 8 % 2)
    go true true e f h = (run_in lo 0xFF b e, eqb-true _ _ f)
    go true false e f h = let z : ◌≡◌ {A = ℕ} 0 1 = cc in let y : ⊥ = omega arith in absurd y
    go false u e f h = let z : ◌≡◌ {A = ℕ} 0 1 = cc in let y : ⊥ = omega arith in absurd y

pub arith_back : (n : ℕ) → n < 8 → arith_number (arith_of n) ≡ n
arith_back zero h = refl
arith_back (suc zero) h = refl
arith_back (suc (suc zero)) h = refl
arith_back (suc (suc (suc zero))) h = refl
arith_back (suc (suc (suc (suc zero)))) h = refl
arith_back (suc (suc (suc (suc (suc zero))))) h = refl
arith_back (suc (suc (suc (suc (suc (suc zero)))))) h = refl
arith_back (suc (suc (suc (suc (suc (suc (suc zero))))))) h = refl
arith_back (suc (suc (suc (suc (suc (suc (suc (suc n)))))))) h = let z : ⊥ = omega arith in absurd z

pub shift_back : (n : ℕ) → n < 4 → shift_number (shift_kind n) ≡ n
shift_back zero h = refl
shift_back (suc zero) h = refl
shift_back (suc (suc zero)) h = refl
shift_back (suc (suc (suc zero))) h = refl
shift_back (suc (suc (suc (suc n)))) h = let z : ⊥ = omega arith in absurd z

-- the byte of an operation on R: its row, the operation, the register
pub computes : (b : ℕ) → 0x80 ≤ b → b ≤ 0xFF → b / 8 % 2 ≡ 0 → b ≡ 0x80 + 16 * arith_number (arith_of (b / 16 % 8)) + b % 8
computes b h k e = rw (arith_back (b / 16 % 8) (mod-lt (b / 16) (omega arith))) (omega arith)

pub computes_into : (b : ℕ) → 0x88 ≤ b → b ≤ 0xFF → b / 8 % 2 ≡ 1 → b ≡ 0x88 + 16 * arith_number (arith_of (b / 16 % 8)) + b % 8
computes_into b h k e =
    let u : b / 8 / 2 ≡ b / 16 = omega arith in
    let v : b / 8 ≡ 2 * (b / 16) + 1 = omega arith in
    let w : b / 16 % 8 + 8 ≡ b / 16 = omega arith in
    rw (arith_back (b / 16 % 8) (mod-lt (b / 16) (omega arith))) (omega arith)
