-- A step up or down at each size, as the code makes it.
use mathlib.Core.Path.{◌≡◌, refl}
use Prim.Native.Nat.{ℕ, suc, ◌+◌, ◌-◌, ◌*◌, ◌%◌, ◌^◌, ◌≤◌}
use native.Mathlib.Nat.{add-mul-mod_self_left, mul-suc}
use native.Mathlib.Omega.{arith}
use borrow.Author.Tests.{eq-eqb, ne_eqb}
use Rattle.little.specs.declared.Size.{Size}
use Rattle.little.specs.declared.Size.TheVariants.{Byte, Word, Long}
use Rattle.little.specs.Width.{bits_of}
use Rattle.flags.specs.Width.{low}
use Rattle.feed.specs.Cycle.{minc_of, mdec_of}

-- a step off a number of b values, from any multiple of b
off : (b c x s : ℕ) → s ≤ b → (x + (b * suc c - s)) % b ≡ (b + x - s) % b
off b c x s h =
    let e : b * suc c ≡ b * c + b = mul-suc b c in
    let f : x + (b * suc c - s) ≡ b + x - s + b * c = omega arith in
    rw f (add-mul-mod_self_left (b + x - s) b c)

-- from 2 ^ 32, which is a multiple at every size
pub off_long : (z : Size) (x s : ℕ) → s ≤ 4 → (x + (4294967296 - s)) % 2 ^ bits_of z ≡ (2 ^ bits_of z + x - s) % 2 ^ bits_of z
off_long Byte x s h = off 256 16777215 x s (omega arith)
off_long Word x s h = off 65536 65535 x s (omega arith)
off_long Long x s h = off 4294967296 0 x s (omega arith)

-- at the last entry, and before it
module _ (k s last a x : ℕ) (is-low : x ≡ low k a) where
  pub minc_end : x % (last + s) ≡ last → x - last ≡ minc_of k s last a
  unfolding minc_of
  minc_end t = rw (← is-low, eq-eqb _ _ t) refl

  pub minc_on : (x % (last + s) ≡ last → ⊥) → (x + s) % 2 ^ k ≡ minc_of k s last a
  unfolding minc_of
  minc_on t = rw (← is-low, ne_eqb _ _ t) refl

  pub mdec_end : x % (last + s) ≡ 0 → (x + last) % 2 ^ k ≡ mdec_of k s last a
  unfolding mdec_of
  mdec_end t = rw (← is-low, eq-eqb _ _ t) refl

  pub mdec_on : (x % (last + s) ≡ 0 → ⊥) → (2 ^ k + x - s) % 2 ^ k ≡ mdec_of k s last a
  unfolding mdec_of
  mdec_on t = rw (← is-low, ne_eqb _ _ t) refl
