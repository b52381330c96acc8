-- Shifts and EXTS are what the words mean (specs/Meaning.antt), once over the width.
use mathlib.Core.Path.{◌≡◌, refl, sym, ap, ◌∙◌}
use mathlib.Core.Bool.{Bool, true, false, cond}
use Prim.Native.Nat.{ℕ, zero, suc, ◌+◌, ◌-◌, ◌*◌, ◌/◌, ◌%◌, ◌^◌, ◌<◌}
use native.Mathlib.Nat.{div-one, add-mod, add-zero, add_assoc, mul-add, mul-one, mul-zero, pow-suc, mul_assoc, add-mul-div_right, div-div-eq-div-mul}
use native.Mathlib.Numerals.{add-one}
use native.Mathlib.Omega.{arith}
use lib.Dec.{leb}
use lib.Pow.{pow_pos, shr-shr}
use borrow.Author.Tests.{le-leb, lt-leb, leb-false}
use Rattle.little.specs.declared.Size.{Size}
use Rattle.little.specs.Width.{bits_of}
use Rattle.alu.specs.declared.Shift.{Shift}
use Rattle.alu.specs.Extend.{extz_of, exts_of}
use Rattle.alu.specs.declared.Shift.TheVariants.{Sla, Sra, Sll, Srl}
use Rattle.alu.specs.declared.shifter.Shifted.{Shifted}
use Rattle.flags.specs.Width.{low, negative, weighed}
use Rattle.flags.specs.Sums.{result_of}
use Rattle.alu.specs.Logic.{plain}
use Rattle.alu.specs.Shift.{shifted, one_place, shift_by, shift_of}
use Rattle.flags.specs.Meaning.{off}
use Rattle.alu.specs.Meaning.{EndsWithAPlace, LeftMultiplies, LeftShiftsAgree, RightDivides, SignedRightDivides, ExtsKeepsNumber}
use Rattle.flags.proofs.Widths.{twice, bits_pos, half_le, half_top}
use Rattle.alu.proofs.Ranges.{extz_half}
use Rattle.alu.proofs.Shifts.{shift_add}

-- the last place of a shift
last : (w : Shift) (k n : ℕ) (s : Shifted) → shift_by w k (suc n) s ≡ one_place w k (shift_by w k n s).value
unfolding shift_by
last w k n s = ap (λ (m : ℕ). shift_by w k m s) (sym (add-one n)) ∙ shift_add w k n 1 s

pub ends_with_a_place : EndsWithAPlace
unfolding shift_of result_of
ends_with_a_place w k a n =
    let e = last w k n (shifted (low k a) false) in
    record { value = ap (λ (t : Shifted). t.value) e; carry = ap (λ (t : Shifted). t.out) e }

-- the value after n places
after : Shift → ℕ → ℕ → ℕ → ℕ
after w k x n = (shift_by w k n (shifted x false)).value

after_none : (w : Shift) (k x : ℕ) → after w k x 0 ≡ x
unfolding after shift_by
after_none w k x = refl

after_more : (w : Shift) (k x n : ℕ) → after w k x (suc n) ≡ (one_place w k (after w k x n)).value
unfolding after
after_more w k x n = ap (λ (t : Shifted). t.value) (last w k n (shifted x false))

-- ---- to the left
doubled : (m y : ℕ) → y % m * 2 % m ≡ y * 2 % m
doubled m y =
    let e : y % m * 2 ≡ y % m + y % m = omega arith in
    let f : y * 2 ≡ y + y = omega arith in
    rw (e, f) (sym (add-mod y y m))

left_after : (w : Shift) → ((k x : ℕ) → (one_place w k x).value ≡ low k (x * 2)) → (k a n : ℕ) → after w k (low k a) n ≡ low k (a * 2 ^ n)
left_after w f k a zero = after_none w k (low k a) ∙ ap (low k) (sym (mul-one a))
left_after w f k a (suc n) =
    after_more w k (low k a) n
    ∙ f k (after w k (low k a) n)
    ∙ rw (left_after w f k a n, doubled (2 ^ k) (a * 2 ^ n), mul_assoc a (2 ^ n) 2, pow-suc 2 n)

pub left_multiplies : LeftMultiplies
unfolding shift_of result_of after
left_multiplies k a n = (left_after Sla (λ k x. refl) k a n, left_after Sll (λ k x. refl) k a n)

-- a place is the same in both
left_places : (k n : ℕ) (s : Shifted) → shift_by Sla k n s ≡ shift_by Sll k n s
unfolding shift_by
left_places k zero s = refl
left_places k (suc n) s = left_places k n (one_place Sla k s.value)

pub left_shifts_agree : LeftShiftsAgree
unfolding shift_of
left_shifts_agree k a n = ap (λ (t : Shifted). plain k t.value false t.out) (left_places k n (shifted (low k a) false))

-- ---- to the right
right_after : (k x n : ℕ) → after Srl k x n ≡ x / 2 ^ n
right_after k x zero = after_none Srl k x ∙ sym (div-one x)
right_after k x (suc n) =
    after_more Srl k x n ∙ rw (right_after k x n, add-zero, shr-shr x n 1, add-one)

pub right_divides : RightDivides
unfolding shift_of result_of after
right_divides k a n = right_after k (low k a) n

-- ---- to the right, with the sign
sign_kept : (k x : ℕ) → negative k (one_place Sra k x).value ≡ negative k x
sign_kept k x = go (negative k x) refl
  where
    go : (b : Bool) → negative k x ≡ b → leb (2 ^ (k - 1)) (x / 2 + cond b (2 ^ (k - 1)) 0) ≡ b
    go true e = le-leb (2 ^ (k - 1)) (x / 2 + 2 ^ (k - 1)) (omega arith)
    go false e =
        let l = leb-false (2 ^ (k - 1)) x e in
        lt-leb (2 ^ (k - 1)) (x / 2 + 0) (omega arith)

signs_kept : (k x n : ℕ) → negative k (after Sra k x n) ≡ negative k x
signs_kept k x zero = ap (negative k) (after_none Sra k x)
signs_kept k x (suc n) = ap (negative k) (after_more Sra k x n) ∙ sign_kept k (after Sra k x n) ∙ signs_kept k x n

-- the sign bit at its weight, twice, is what the sign takes off
weighed_twice : (k x : ℕ) → 0 < k → weighed k x + weighed k x ≡ off k x
weighed_twice k x p = go (negative k x)
  where
    go : (b : Bool) → cond b (2 ^ (k - 1)) 0 + cond b (2 ^ (k - 1)) 0 ≡ cond b (2 ^ k) 0
    go true = sym (twice k p)
    go false = refl

-- the next numerator: once more s for each of the q so far
numerator : (x s q : ℕ) → 0 < q → x + s * (q - 1) + s * q ≡ x + s * (q * 2 - 1)
numerator x s q h =
    let e : q * 2 - 1 ≡ q - 1 + q = omega arith in
    rw (e, mul-add s (q - 1) q) (add_assoc x (s * (q - 1)) (s * q))

halve : (y s w : ℕ) → w + w ≡ s → y / 2 + w ≡ (y + s) / 2
halve y s w e = omega arith

signed_after : (k x n : ℕ) → 0 < k → after Sra k x n ≡ (x + off k x * (2 ^ n - 1)) / 2 ^ n
signed_after k x zero p = after_none Sra k x ∙ sym (ap (λ (m : ℕ). (x + m) / 1) (mul-zero (off k x)) ∙ div-one (x + 0) ∙ add-zero x)
signed_after k x (suc n) p =
    let s = off k x in
    let q = 2 ^ n in
    let y = after Sra k x n in
    let f : off k y ≡ s = ap (λ (b : Bool). cond b (2 ^ k) 0) (signs_kept k x n) in
    after_more Sra k x n
    ∙ halve y s (weighed k y) (weighed_twice k y p ∙ f)
    ∙ ap (λ (m : ℕ). (m + s) / 2) (signed_after k x n p)
    ∙ ap (λ (m : ℕ). m / 2) (sym (add-mul-div_right (x + s * (q - 1)) s (pow_pos n)))
    ∙ div-div-eq-div-mul (x + s * (q - 1) + s * q) q 2
    ∙ ap (λ (m : ℕ). m / (q * 2)) (numerator x s q (pow_pos n))
    ∙ ap (λ (m : ℕ). (x + s * (m - 1)) / m) (sym (pow-suc 2 n))

pub signed_right_divides : SignedRightDivides
unfolding shift_of result_of after
signed_right_divides k a n p = signed_after k (low k a) n p

-- ---- EXTS
module _ (s : Size) (a : ℕ) where
  exts_number : (b : Bool) → negative (bits_of s / 2) (extz_of (bits_of s) a) ≡ b →
      cond b (extz_of (bits_of s) a + (2 ^ bits_of s - 2 ^ (bits_of s / 2))) (extz_of (bits_of s) a) + cond b (2 ^ (bits_of s / 2)) 0
      ≡ extz_of (bits_of s) a + off (bits_of s) (cond b (extz_of (bits_of s) a + (2 ^ bits_of s - 2 ^ (bits_of s / 2))) (extz_of (bits_of s) a))
  exts_number true e =
      let k = bits_of s in
      let z = extz_of k a in
      rw (le-leb (2 ^ (k - 1)) (z + (2 ^ k - 2 ^ (k / 2))) (omega (arith, half_top s, twice k (bits_pos s)))) (omega (arith, half_le s))
  exts_number false e =
      let k = bits_of s in
      let z = extz_of k a in
      rw (lt-leb (2 ^ (k - 1)) z (omega (arith, extz_half k a, half_top s)))

pub exts_keeps_number : ExtsKeepsNumber
unfolding exts_of
exts_keeps_number s a = exts_number s a (negative (bits_of s / 2) (extz_of (bits_of s) a)) refl
