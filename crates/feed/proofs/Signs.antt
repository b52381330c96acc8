-- Numbers with a sign as a sign and how large they are: what the definitions over whole numbers are of these, once over the width.
use mathlib.Core.Path.{◌≡◌, refl, sym, ap, ap₂, ◌∙◌}
use mathlib.Core.Bool.{Bool, true, false, not, cond, ◌&&◌, beq}
use Prim.Native.Nat.{ℕ, zero, suc, ◌+◌, ◌-◌, ◌*◌, ◌/◌, ◌%◌, ◌^◌, ◌≤◌, ◌<◌}
use native.Mathlib.Nat.{add-zero, zero-add, mul-zero, zero-mul, zero-div, div-zero, zero-mod, mod-lt, mod-eq_of_lt, not-suc-le-zero, le_refl, zero-lt-suc}
use native.Mathlib.Numerals.{sub-one}
use native.Mathlib.Omega.{arith}
use lib.Dec.{leb, leb-zero, leb-suc-suc}
use lib.IntN.{ℤ, pos, negsuc, neg_ℤ, nat_abs, ◌+ℤ◌, ◌*ℤ◌, +ℤ_idl, +ℤ_idr}
use lib.Signed.{quot_z, rem_z, le_z, lt_z, non_neg}
use lib.Pow.{pow_pos}
use borrow.Author.Tests.{lt-ltb, le-leb, lt-leb, leb-true, leb-false}
use Rattle.flags.specs.Width.{negative}
use Rattle.flags.proofs.Widths.{twice}
use Rattle.flags.proofs.Bools.{and_true}
use Rattle.feed.specs.Scale.{signed, bits_for, holds_signed}
use Rattle.feed.specs.inner.Sign.{magnitude_of, with_sign, largest_of}

-- a number so large, below zero or not; 0 is the same with either sign
abbrev pub sg : Bool → ℕ → ℤ
sg minus m = cond minus (neg_ℤ (pos m)) (pos m)

-- one sign of two, as a product and a quotient have it
abbrev pub differ : Bool → Bool → Bool
differ s t = not (beq s t)

-- every whole number is so
pub parts : (z : ℤ) → z ≡ sg (not (non_neg z)) (nat_abs z)
parts (pos n) = refl
parts (negsuc n) = refl

pub abs_sg : (s : Bool) (m : ℕ) → nat_abs (sg s m) ≡ m
abs_sg false m = refl
abs_sg true zero = refl
abs_sg true (suc m) = refl

pub zero_sign : (s : Bool) → sg s 0 ≡ pos 0
zero_sign true = refl
zero_sign false = refl

-- ---- what is computed of two
pub times : (s t : Bool) (m n : ℕ) → sg s m *ℤ sg t n ≡ sg (differ s t) (m * n)
times false false m n = refl
times false true m zero = rw (mul-zero m) refl
times false true m (suc n) = refl
times true false zero n = rw (zero-mul n) refl
times true false (suc m) n = refl
times true true zero zero = rw (zero-mul 0) refl
times true true zero (suc n) = rw (zero-mul (suc n)) refl
times true true (suc m) zero = rw (mul-zero (suc m)) refl
times true true (suc m) (suc n) = refl

pub quotient : (s t : Bool) (m n : ℕ) → quot_z (sg s m) (sg t n) ≡ sg (differ s t) (m / n)
quotient false false m n = refl
quotient false true m zero = rw (div-zero m) refl
quotient false true m (suc n) = refl
quotient true false zero n = rw (zero-div n) refl
quotient true false (suc m) n = refl
quotient true true zero zero = rw (zero-div 0) refl
quotient true true zero (suc n) = rw (zero-div (suc n)) refl
quotient true true (suc m) zero = rw (div-zero (suc m)) refl
quotient true true (suc m) (suc n) = refl

pub remainder : (s t : Bool) (m n : ℕ) → rem_z (sg s m) (sg t n) ≡ sg s (m % n)
remainder false t m n = rw (abs_sg t n) refl
remainder true t zero n = rw (abs_sg t n, zero-mod n) refl
remainder true t (suc m) n = rw (abs_sg t n) refl

pub plus : (s : Bool) (m n : ℕ) → sg s m +ℤ sg s n ≡ sg s (m + n)
plus false m n = refl
plus true zero n = +ℤ_idl (neg_ℤ (pos n)) ∙ ap (sg true) (sym (zero-add n))
plus true (suc m) zero = +ℤ_idr (negsuc m) ∙ ap (sg true) (sym (add-zero (suc m)))
plus true (suc m) (suc n) = ap (sg true) (both m n)
  where
    both : (m n : ℕ) → suc (suc (m + n)) ≡ suc m + suc n
    both m n = omega arith

-- ---- a number of k bits
pub signed_is : (k x : ℕ) → 0 < k → signed k x ≡ sg (negative k x) (magnitude_of (2 ^ (k - 1)) x)
signed_is k x p = go (negative k x)
  where
    less : 2 ^ k - x ≡ 2 * 2 ^ (k - 1) - x
    less = omega (arith, twice k p)

    go : (b : Bool) → cond b (neg_ℤ (pos (2 ^ k - x))) (pos x) ≡ sg b (cond b (2 * 2 ^ (k - 1) - x) x)
    go true = ap (sg true) less
    go false = refl

pub magnitude_le : (t x : ℕ) → magnitude_of t x ≤ t
magnitude_le t x = go (leb t x) refl
  where
    go : (b : Bool) → leb t x ≡ b → cond b (2 * t - x) x ≤ t
    go true e = omega (arith, leb-true t x e)
    go false e = omega (arith, leb-false t x e)

pub magnitude_pos : (t x : ℕ) → 0 < x → x < 2 * t → 0 < magnitude_of t x
magnitude_pos t x p h = go (leb t x)
  where
    go : (b : Bool) → 0 < cond b (2 * t - x) x
    go true = omega arith
    go false = p

with_minus : (t m : ℕ) → with_sign t true (suc m) ≡ 2 * t - suc m
with_minus t m = ap (λ (b : Bool). cond b (2 * t - suc m) (suc m)) (lt-ltb 0 (suc m) (zero-lt-suc m))

-- ---- in k bits
pub bits_lt : (k : ℕ) (z : ℤ) → bits_for k z < 2 ^ k
bits_lt k (pos n) = mod-lt n (pow_pos k)
bits_lt k (negsuc n) = omega (arith, pow_pos k)

pub bits : (k : ℕ) (s : Bool) (m : ℕ) → 0 < k → m < 2 ^ k → bits_for k (sg s m) ≡ with_sign (2 ^ (k - 1)) s m
bits k false m p h = mod-eq_of_lt h
bits k true zero p h = mod-eq_of_lt h
bits k true (suc m) p h =
    let l : m < 2 ^ k = omega arith in
    rw (mod-eq_of_lt l) (omega (arith, twice k p, with_minus (2 ^ (k - 1)) m))

holds_at :
    (t : ℕ) (s : Bool) (m : ℕ) → 0 < t →
    (le_z (neg_ℤ (pos t)) (sg s m) && lt_z (sg s m) (pos t)) ≡ leb m (largest_of t s)
holds_at zero s m p = absurd (not-suc-le-zero p)
holds_at (suc u) false m p = leb-suc-suc m u ∙ ap (leb m) (sym (sub-one (suc u)))
holds_at (suc u) true zero p = leb-suc-suc 0 u ∙ leb-zero u ∙ sym (leb-zero (suc u))
holds_at (suc u) true (suc m) p = and_true (leb m u) ∙ sym (leb-suc-suc m u)

pub holds : (k : ℕ) (s : Bool) (m : ℕ) → holds_signed k (sg s m) ≡ leb m (largest_of (2 ^ (k - 1)) s)
holds k s m = holds_at (2 ^ (k - 1)) s m (pow_pos (k - 1))

pub largest_le : (t : ℕ) (s : Bool) → largest_of t s ≤ t
largest_le t true = le_refl t
largest_le t false = omega arith

-- what is smaller than the weight of the top bit fits with either sign
pub small_holds : (k : ℕ) {z : ℤ} (s : Bool) (m : ℕ) → z ≡ sg s m → m < 2 ^ (k - 1) → holds_signed k z ≡ true
small_holds k s m e h = ap (holds_signed k) e ∙ holds k s m ∙ le-leb m (largest_of (2 ^ (k - 1)) s) (go s)
  where
    go : (s : Bool) → m ≤ largest_of (2 ^ (k - 1)) s
    go true = omega arith
    go false = omega arith

-- and back: a number that k bits hold is what its bits stand for
back_at :
    (t : ℕ) (s : Bool) (m : ℕ) → 0 < t → m ≤ largest_of t s →
    sg (leb t (with_sign t s m)) (magnitude_of t (with_sign t s m)) ≡ sg s m
back_at t false m p h = rw (lt-leb t m (omega arith)) refl
back_at t true zero p h = rw (lt-leb t 0 p) refl
back_at t true (suc m) p h =
    ap (λ (w : ℕ). sg (leb t w) (magnitude_of t w)) (with_minus t m)
    ∙ rw (le-leb t (2 * t - suc m) (omega arith)) (ap (sg true) (again t m h))
  where
    again : (t m : ℕ) → suc m ≤ t → 2 * t - (2 * t - suc m) ≡ suc m
    again t m h = omega arith

pub back : (k : ℕ) (s : Bool) (m : ℕ) → 0 < k → m ≤ largest_of (2 ^ (k - 1)) s → signed k (bits_for k (sg s m)) ≡ sg s m
back k s m p h =
    let t = 2 ^ (k - 1) in
    let l : m < 2 ^ k = omega (arith, twice k p, pow_pos (k - 1), largest_le t s) in
    ap (signed k) (bits k s m p l) ∙ signed_is k (with_sign t s m) p ∙ back_at t s m (pow_pos (k - 1)) h

pub returned : (k : ℕ) (z : ℤ) → 0 < k → holds_signed k z ≡ true → signed k (bits_for k z) ≡ z
returned k z p h =
    let s = not (non_neg z) in
    let m = nat_abs z in
    let l = leb-true m (largest_of (2 ^ (k - 1)) s) (sym (holds k s m) ∙ ap (holds_signed k) (sym (parts z)) ∙ h) in
    ap (λ (z : ℤ). signed k (bits_for k z)) (parts z) ∙ back k s m p l ∙ sym (parts z)

-- ---- of two numbers in bits: whether just one is below zero, and how large each is
abbrev pub turned_in : ℕ → ℕ → ℕ → ℕ → Bool
turned_in j k x y = differ (negative j x) (negative k y)

abbrev pub size_in : ℕ → ℕ → ℕ
size_in k x = magnitude_of (2 ^ (k - 1)) x

pub product_is : (k x y : ℕ) → 0 < k → signed k x *ℤ signed k y ≡ sg (turned_in k k x y) (size_in k x * size_in k y)
product_is k x y p =
    ap₂ ◌*ℤ◌ (signed_is k x p) (signed_is k y p) ∙ times (negative k x) (negative k y) (size_in k x) (size_in k y)

module _ (j k x y : ℕ) (o : 0 < j) (p : 0 < k) where
  pub quotient_is : quot_z (signed j x) (signed k y) ≡ sg (turned_in j k x y) (size_in j x / size_in k y)
  quotient_is =
      ap₂ quot_z (signed_is j x o) (signed_is k y p) ∙ quotient (negative j x) (negative k y) (size_in j x) (size_in k y)

  pub remainder_is : rem_z (signed j x) (signed k y) ≡ sg (negative j x) (size_in j x % size_in k y)
  remainder_is =
      ap₂ rem_z (signed_is j x o) (signed_is k y p) ∙ remainder (negative j x) (negative k y) (size_in j x) (size_in k y)
