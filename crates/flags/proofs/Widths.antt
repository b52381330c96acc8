-- Facts about the widths of the three sizes.
use mathlib.Core.Path.{◌≡◌, sym, ap, ap₂, ◌∙◌}
use mathlib.Core.Bool.{Bool, true, false}
use Prim.Native.Nat.{ℕ, zero, suc, ◌+◌, ◌-◌, ◌*◌, ◌/◌, ◌%◌, ◌^◌, ◌≤◌, ◌<◌, zero-le}
use native.Mathlib.Nat.{le_refl, pow-suc, not-suc-le-zero, add-zero, mul-mod_left}
use native.Mathlib.Numerals.{sub-one}
use native.Mathlib.Omega.{arith}
use lib.Dec.{lit<, lit≤}
use lib.Bits.{bit_and, and_le_r}
use lib.Pow.{mod-pow-add, shl-shr}
use Rattle.little.specs.declared.Size.{Size}
use Rattle.little.specs.declared.Size.TheVariants.{Byte, Word, Long}
use Rattle.little.specs.Width.{bits_of}
use Rattle.flags.specs.Width.{low, one}

pub one_le : (b : Bool) → one b ≤ 1
one_le true = le_refl 1
one_le false = zero-le

-- the weight of the top bit, twice, is 2 ^ k
pub twice : (k : ℕ) → 0 < k → 2 ^ k ≡ 2 ^ (k - 1) + 2 ^ (k - 1)
twice zero h = absurd (not-suc-le-zero h)
twice (suc j) h =
    let e : 2 ^ suc j ≡ 2 ^ j * 2 = pow-suc 2 j in
    let f : 2 ^ (suc j - 1) ≡ 2 ^ j = ap (λ (n : ℕ). 2 ^ n) (sub-one (suc j)) in
    omega arith

-- what a mask of at most 32 ones leaves fits a long
pub masked_lt : (x m : ℕ) → 0 < m → m ≤ 4294967296 → bit_and x (m - 1) < 4294967296
masked_lt x m p h = omega (arith, and_le_r x (m - 1))

-- the low bits of a number that is raised are its own, raised
pub raised_mod : (k j a : ℕ) → a * 2 ^ j % 2 ^ (k + j) ≡ low k a * 2 ^ j
raised_mod k j a =
    mod-pow-add (a * 2 ^ j) k j
    ∙ ap₂ (λ (p q : ℕ). p % 2 ^ k * 2 ^ j + q) (shl-shr a j) (mul-mod_left a (2 ^ j))
    ∙ add-zero (low k a * 2 ^ j)

-- what is below the top bit, twice, is the low bits of twice the number
pub low_twice : (k x : ℕ) → 0 < k → low (k - 1) x * 2 ≡ low k (x * 2)
low_twice k x p =
    let e : k - 1 + 1 ≡ k = omega arith in
    sym (raised_mod (k - 1) 1 x) ∙ ap (λ (n : ℕ). x * 2 % 2 ^ n) e

-- a size has bits, and at most 32
pub bits_pos : (s : Size) → 0 < bits_of s
bits_pos Byte = lit< tt
bits_pos Word = lit< tt
bits_pos Long = lit< tt

pub bits_le : (s : Size) → bits_of s ≤ 32
bits_le Byte = lit≤ tt
bits_le Word = lit≤ tt
bits_le Long = lit≤ tt

pub size_le : (s : Size) → 2 ^ bits_of s ≤ 4294967296
size_le Byte = lit≤ tt
size_le Word = lit≤ tt
size_le Long = lit≤ tt

-- half of a size is smaller, and below the top bit
pub half_le : (s : Size) → 2 ^ (bits_of s / 2) ≤ 2 ^ bits_of s
half_le Byte = lit≤ tt
half_le Word = lit≤ tt
half_le Long = lit≤ tt

pub half_top : (s : Size) → 2 ^ (bits_of s / 2) ≤ 2 ^ (bits_of s - 1)
half_top Byte = lit≤ tt
half_top Word = lit≤ tt
half_top Long = lit≤ tt
