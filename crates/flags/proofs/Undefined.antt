-- What the book leaves undefined of a kind of result, and what it does not.
use mathlib.Core.Path.{◌≡◌, refl}
use mathlib.Core.Bool.{Bool, true, false, not, cond, ◌&&◌}
use Prim.Native.Nat.{ℕ}
use lib.Dec.{ltb}
use Rattle.flags.specs.Undefined.{nothing, mark_h, mark_v, by_sum, by_parity, undefined_of, marks_h, marks_v}

-- V of a sum or a difference is defined, and H of logic and of a shift
pub sum_defines_v : (k : ℕ) (v : Bool) → (not (marks_v (undefined_of (by_sum k))) && v) ≡ v
sum_defines_v k v = go (ltb k 32)
  where
    go : (b : Bool) → (not (marks_v (cond b nothing mark_h)) && v) ≡ v
    go true = refl
    go false = refl

pub parity_defines_h : (k : ℕ) (h : Bool) → (not (marks_h (undefined_of (by_parity k))) && h) ≡ h
parity_defines_h k h = go (ltb k 32)
  where
    go : (b : Bool) → (not (marks_h (cond b nothing mark_v)) && h) ≡ h
    go true = refl
    go false = refl
