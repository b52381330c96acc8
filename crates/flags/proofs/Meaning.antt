-- Carry, borrow, half carry and overflow are what the words mean (specs/Meaning.antt), once over the width.
use mathlib.Core.Path.{◌≡◌, ap, ◌∙◌}
use Prim.Native.Nat.{ℕ, ◌+◌, ◌-◌, ◌*◌, ◌%◌, ◌^◌, ◌≤◌, ◌<◌}
use native.Mathlib.Nat.{mod-eq_of_lt, add-mod_right, lt_of_not-le, mod-lt, mul_assoc}
use native.Mathlib.Decide.{dec_le}
use native.Mathlib.Omega.{arith}
use lib.Dec.{leb, ltb}
use lib.Pow.{pow_pos, pow-add, mod-mod-pow}
use borrow.Author.Tests.{lt-ltb, le-ltb, le-leb, lt-leb}
use Rattle.flags.specs.Width.{low, one}
use Rattle.flags.specs.Sums.{result_of, sum_of, difference_of}
use Rattle.flags.proofs.Widths.{one_le, twice}
use Rattle.flags.proofs.Undefined.{sum_defines_v}
use Rattle.flags.proofs.Overflow.{sum_turned_at, difference_turned_at}
use Rattle.flags.specs.Meaning.{SumIsExact, DifferenceIsExact, SumHalf, DifferenceHalf, SumOverflows, DifferenceOverflows}

-- ---- carry and borrow: m is the modulus
module _ (m x y c : ℕ) (hx : x < m) (hy : y < m) (hc : c ≤ 1) where
  carry_out : Dec (m ≤ x + y + c) → (x + y + c) % m + m * one (leb m (x + y + c)) ≡ x + y + c
  carry_out (yes l) =
      let e : x + y + c ≡ x + y + c - m + m = omega arith in
      let f : (x + y + c) % m ≡ x + y + c - m =
      ap (λ (n : ℕ). n % m) e ∙ add-mod_right (x + y + c - m) m ∙ mod-eq_of_lt {n = x + y + c - m} {m = m} (omega arith) in
      simp (le-leb m (x + y + c) l, f) (omega arith)
  carry_out (no n) =
      let l : x + y + c < m = lt_of_not-le n in
      simp (lt-leb m (x + y + c) l, mod-eq_of_lt l) (omega arith)

  borrow_in : Dec (y + c ≤ x) → (m + x - (y + c)) % m + y + c ≡ x + m * one (ltb x (y + c))
  borrow_in (yes l) =
      let e : m + x - (y + c) ≡ x - (y + c) + m = omega arith in
      let f : (m + x - (y + c)) % m ≡ x - (y + c) =
      ap (λ (n : ℕ). n % m) e ∙ add-mod_right (x - (y + c)) m ∙ mod-eq_of_lt {n = x - (y + c)} {m = m} (omega arith) in
      simp (le-ltb x (y + c) l, f) (omega arith)
  borrow_in (no n) =
      let l : x < y + c = lt_of_not-le n in
      simp (lt-ltb x (y + c) l, mod-eq_of_lt {n = m + x - (y + c)} {m = m} (omega arith)) (omega arith)

pub sum_is_exact : SumIsExact
unfolding sum_of result_of
sum_is_exact k a b c =
    carry_out (2 ^ k) (low k a) (low k b) (one c) (mod-lt a (pow_pos k)) (mod-lt b (pow_pos k)) (one_le c) (dec_le (2 ^ k) (low k a + low k b + one c))

pub difference_is_exact : DifferenceIsExact
unfolding difference_of result_of
difference_is_exact k a b c =
    borrow_in (2 ^ k) (low k a) (low k b) (one c) (mod-lt a (pow_pos k)) (mod-lt b (pow_pos k)) (one_le c) (dec_le (low k b + one c) (low k a))

-- ---- half carry
-- the low four bits of a number's low k bits are its own
pub low_four : (k x : ℕ) → 4 ≤ k → x % 2 ^ k % 16 ≡ x % 16
low_four k x h =
    let e : k - 4 + 4 ≡ k = omega arith in
    rw e at (mod-mod-pow x (k - 4) 4)

module _ (x y c : ℕ) (hc : c ≤ 1) where
  half_carry_out : Dec (16 ≤ x % 16 + y % 16 + c) → (x + y + c) % 16 + 16 * one (leb 16 (x % 16 + y % 16 + c)) ≡ x % 16 + y % 16 + c
  half_carry_out (yes l) = rw (le-leb 16 (x % 16 + y % 16 + c) l) (omega arith)
  half_carry_out (no n) =
      let l : x % 16 + y % 16 + c < 16 = lt_of_not-le n in
      rw (lt-leb 16 (x % 16 + y % 16 + c) l) (omega arith)

  -- d is x - y - c, with some sixteens borrowed
  half_borrow_in :
      (d z : ℕ) → d + y + c ≡ x + 16 * z → Dec (y % 16 + c ≤ x % 16) →
      d % 16 + y % 16 + c ≡ x % 16 + 16 * one (ltb (x % 16) (y % 16 + c))
  half_borrow_in d z e (yes l) = rw (le-ltb (x % 16) (y % 16 + c) l) (omega arith)
  half_borrow_in d z e (no n) =
      let l : x % 16 < y % 16 + c = lt_of_not-le n in
      rw (lt-ltb (x % 16) (y % 16 + c) l) (omega arith)

pub sum_half : SumHalf
unfolding sum_of result_of
sum_half k a b c h l =
    rw (lt-ltb k 32 l, low_four k (low k a + low k b + one c) h)
    (half_carry_out (low k a) (low k b) (one c) (one_le c) (dec_le 16 (low k a % 16 + low k b % 16 + one c))
    ∙ rw (low_four k a h, low_four k b h))

-- 2 ^ k is so many sixteens
sixteens : (k b : ℕ) → 4 ≤ k → 2 ^ k * b ≡ 16 * (2 ^ (k - 4) * b)
sixteens k b h =
    let e : 4 + (k - 4) ≡ k = omega arith in
    rw e at (ap (λ (n : ℕ). n * b) (pow-add 2 4 (k - 4)) ∙ mul_assoc 16 (2 ^ (k - 4)) b)

pub difference_half : DifferenceHalf
unfolding difference_of result_of
difference_half k a b c h l =
    let borrow = one (ltb (low k a) (low k b + one c)) in
    rw (lt-ltb k 32 l, ← low_four k a h, ← low_four k b h)
    (half_borrow_in (low k a) (low k b) (one c) (one_le c) ((2 ^ k + low k a - (low k b + one c)) % 2 ^ k) (2 ^ (k - 4) * borrow)
    (difference_is_exact k a b c ∙ ap (λ (n : ℕ). low k a + n) (sixteens k borrow h))
    (dec_le (low k b % 16 + one c) (low k a % 16)))

-- ---- overflow
pub sum_overflows : SumOverflows
unfolding sum_of result_of
sum_overflows k a b c p =
    sum_defines_v k _
    ∙ sum_turned_at (2 ^ k) (2 ^ (k - 1)) (low k a) (low k b) (one c) (twice k p) (mod-lt a (pow_pos k)) (mod-lt b (pow_pos k)) (one_le c)

pub difference_overflows : DifferenceOverflows
unfolding difference_of result_of
difference_overflows k a b c p =
    sum_defines_v k _
    ∙ difference_turned_at (2 ^ k) (2 ^ (k - 1)) (low k a) (low k b) (one c) (twice k p) (mod-lt a (pow_pos k)) (mod-lt b (pow_pos k)) (one_le c)
