-- H by bit 4: the bits of two operands and of their result, taken together, tell what was carried into it.
use mathlib.Core.Path.{◌≡◌, refl, sym, ap, ◌∙◌}
use mathlib.Core.Bool.{Bool, true, false, not, ◌&&◌}
use Prim.Native.Nat.{ℕ, ◌+◌, ◌-◌, ◌*◌, ◌/◌, ◌%◌, ◌^◌, ◌≤◌, ◌<◌}
use native.Mathlib.Nat.{add_assoc, mul_assoc, mod-lt, zero-lt-suc}
use native.Mathlib.Omega.{arith}
use lib.Dec.{leb, ltb, eqb}
use lib.Bits.{bit_and, bit_xor, and_shr, and_mod, xor_shr, xor_add_and}
use lib.Pow.{pow-add, split}
use Rattle.little.specs.declared.Size.{Size}
use Rattle.little.specs.declared.Size.TheVariants.{Byte, Word, Long}
use Rattle.little.specs.Width.{bits_of}
use borrow.Author.Tests.{leb-true, leb-false, ltb-true, ltb-false}
use Rattle.flags.specs.Width.{low}
use Rattle.flags.specs.Undefined.{by_sum, undefined_of, marks_h}
use Rattle.flags.proofs.Bools.{two_bits}

-- ---- the carry into bit 4
-- what is left of a number above its k low bits is a multiple of 32
above : (k a : ℕ) → 5 ≤ k → a ≡ a / 2 ^ k * 2 ^ (k - 5) * 32 + a % 2 ^ k
above k a h =
    let e : k ≡ k - 5 + 5 = omega arith in
    sym (split a k)
    ∙ ap (λ (n : ℕ). a / 2 ^ k * n + a % 2 ^ k) (ap (λ (n : ℕ). 2 ^ n) e ∙ pow-add 2 (k - 5) 5)
    ∙ ap (λ (n : ℕ). n + a % 2 ^ k) (sym (mul_assoc (a / 2 ^ k) (2 ^ (k - 5)) 32))

over : (p x : ℕ) → (p * 32 + x) / 16 ≡ p * 2 + x / 16
over p x = omega arith

no_carry : (x y o : ℕ) → x % 16 + y % 16 + o < 16 → (x + y + o) / 16 ≡ x / 16 + y / 16 + 0
no_carry x y o h = omega arith

a_carry : (x y o : ℕ) → o ≤ 1 → 16 ≤ x % 16 + y % 16 + o → (x + y + o) / 16 ≡ x / 16 + y / 16 + 1
a_carry x y o i h = omega arith

-- a difference w of x, with more sixteens, and y and o
a_borrow : (u x w y o : ℕ) → u * 32 + x ≡ w + (y + o) → x % 16 < y % 16 + o → 16 ≤ w % 16 + y % 16 + o
a_borrow u x w y o e h = omega arith

no_borrow : (u x w y o : ℕ) → u * 32 + x ≡ w + (y + o) → o ≤ 1 → y % 16 + o ≤ x % 16 → w % 16 + y % 16 + o < 16
no_borrow u x w y o e i h = omega arith

-- with a number's sixteens x, y and v of two operands and a result, t is what was carried, and what the three give together
odd_sum : (x y v p q s t : ℕ) → s * 2 + v ≡ x + y + t → t ≤ 1 → (p * 2 + x + (q * 2 + y) + v) % 2 ≡ t
odd_sum x y v p q s t e h = omega arith

odd_less : (x y v p q s u t : ℕ) → u * 2 + x ≡ s * 2 + v + y + t → t ≤ 1 → (p * 2 + x + (q * 2 + y) + v) % 2 ≡ t
odd_less x y v p q s u t e h = omega arith

module _ (a b x y o v p q s : ℕ) (ea : a ≡ p * 32 + x) (eb : b ≡ q * 32 + y) (h : o ≤ 1) where
  sixteens : (a / 16 + b / 16 + v / 16) % 2 ≡ (p * 2 + x / 16 + (q * 2 + y / 16) + v / 16) % 2
  sixteens = rw (ea, eb, over p x, over q y) refl

  carried_sum : x + y + o ≡ s * 32 + v → eqb ((a / 16 + b / 16 + v / 16) % 2) 1 ≡ leb 16 (x % 16 + y % 16 + o)
  carried_sum e = go (leb 16 (x % 16 + y % 16 + o)) refl
    where
      f : (x + y + o) / 16 ≡ s * 2 + v / 16
      f = ap (λ (n : ℕ). n / 16) e ∙ over s v

      go : (t : Bool) → leb 16 (x % 16 + y % 16 + o) ≡ t → eqb ((a / 16 + b / 16 + v / 16) % 2) 1 ≡ t
      go true g =
          rw (sixteens, odd_sum (x / 16) (y / 16) (v / 16) p q s 1 (sym f ∙ a_carry x y o h (leb-true 16 (x % 16 + y % 16 + o) g)) (omega arith)) refl
      go false g =
          rw (sixteens, odd_sum (x / 16) (y / 16) (v / 16) p q s 0 (sym f ∙ no_carry x y o (leb-false 16 (x % 16 + y % 16 + o) g)) (omega arith)) refl

  carried_less : (u : ℕ) → u * 32 + x ≡ s * 32 + v + (y + o) → eqb ((a / 16 + b / 16 + v / 16) % 2) 1 ≡ ltb (x % 16) (y % 16 + o)
  carried_less u e = go (ltb (x % 16) (y % 16 + o)) refl
    where
      w : ℕ
      w = s * 32 + v

      borrowed : (t : ℕ) → (w + y + o) / 16 ≡ w / 16 + y / 16 + t → u * 2 + x / 16 ≡ s * 2 + v / 16 + y / 16 + t
      borrowed t g = omega (arith, over u x, over s v, ap (λ (n : ℕ). n / 16) e, ap (λ (n : ℕ). n / 16) (add_assoc w y o))

      go : (t : Bool) → ltb (x % 16) (y % 16 + o) ≡ t → eqb ((a / 16 + b / 16 + v / 16) % 2) 1 ≡ t
      go true g =
          let l = ltb-true (x % 16) (y % 16 + o) g in
          rw (sixteens, odd_less (x / 16) (y / 16) (v / 16) p q s u 1 (borrowed 1 (a_carry w y o h (a_borrow u x w y o e l))) (omega arith)) refl
      go false g =
          let l = ltb-false (x % 16) (y % 16 + o) g in
          rw (sixteens, odd_less (x / 16) (y / 16) (v / 16) p q s u 0 (borrowed 0 (no_carry w y o (no_borrow u x w y o e h l))) (omega arith)) refl

-- ---- the bits of three numbers taken together
bit_and_lem : (p q : ℕ) → p < 2 → q < 2 → eqb (bit_and p q) 1 ≡ (eqb q 1 && eqb p 1)
bit_and_lem = two_bits (λ (p q : ℕ). eqb (bit_and p q) 1 ≡ (eqb q 1 && eqb p 1)) refl refl refl refl

xor_odd : (a b r : ℕ) → bit_xor (bit_xor a b) r % 2 ≡ (a + b + r) % 2
xor_odd a b r = omega (arith, xor_add_and a b, xor_add_and (bit_xor a b) r)

pub bit_four : (a b r k : ℕ) → eqb (bit_and (bit_xor (bit_xor a b) r) k / 16 % 2) 1 ≡ (eqb (k / 16 % 2) 1 && eqb ((a / 16 + b / 16 + r / 16) % 2) 1)
bit_four a b r k =
    let x : ℕ = bit_xor (bit_xor a b) r in
    let e : x / 16 % 2 ≡ (a / 16 + b / 16 + r / 16) % 2 =
    ap (λ (n : ℕ). n % 2) (xor_shr (bit_xor a b) r 4 ∙ ap (λ (n : ℕ). bit_xor n (r / 16)) (xor_shr a b 4)) ∙ xor_odd (a / 16) (b / 16) (r / 16) in
    ap (λ (n : ℕ). eqb (n % 2) 1) (and_shr x k 4)
    ∙ ap (λ (n : ℕ). eqb n 1) (and_mod (x / 16) (k / 16) 1)
    ∙ bit_and_lem (x / 16 % 2) (k / 16 % 2) (mod-lt (x / 16) (zero-lt-suc 1)) (mod-lt (k / 16) (zero-lt-suc 1))
    ∙ ap (λ (n : ℕ). eqb (k / 16 % 2) 1 && eqb n 1) e

-- ---- H of a size's sum and difference
pub half_sum :
    (z : Size) (a b o : ℕ) → o ≤ 1 →
    let k = bits_of z in
    (eqb ((32 - k) / 16 % 2) 1 && eqb ((a / 16 + b / 16 + (low k a + low k b + o) % 2 ^ k / 16) % 2) 1)
    ≡ (not (marks_h (undefined_of (by_sum k))) && leb 16 (low k a % 16 + low k b % 16 + o))
half_sum Byte a b o h = carried_sum a b (low 8 a) (low 8 b) o _ _ _ _ (above 8 a (omega arith)) (above 8 b (omega arith)) h (above 8 (low 8 a + low 8 b + o) (omega arith))
half_sum Word a b o h = carried_sum a b (low 16 a) (low 16 b) o _ _ _ _ (above 16 a (omega arith)) (above 16 b (omega arith)) h (above 16 (low 16 a + low 16 b + o) (omega arith))
half_sum Long a b o h = refl

-- the width itself is a multiple of 32, so that a borrow from it does not show in bit 4
less_even : (k x y o : ℕ) → 5 ≤ k → y + o ≤ 2 ^ k + x → 2 ^ (k - 5) * 32 + x ≡ (2 ^ k + x - (y + o)) / 2 ^ k * 2 ^ (k - 5) * 32 + (2 ^ k + x - (y + o)) % 2 ^ k + (y + o)
less_even k x y o h i =
    let e : k ≡ k - 5 + 5 = omega arith in
    let f : 2 ^ k ≡ 2 ^ (k - 5) * 32 = ap (λ (n : ℕ). 2 ^ n) e ∙ pow-add 2 (k - 5) 5 in
    let g = above k (2 ^ k + x - (y + o)) h in
    omega arith

pub half_less :
    (z : Size) (a b o : ℕ) → o ≤ 1 →
    let k = bits_of z in
    low k b + o ≤ 2 ^ k + low k a →
    (eqb ((32 - k) / 16 % 2) 1 && eqb ((a / 16 + b / 16 + (2 ^ k + low k a - (low k b + o)) % 2 ^ k / 16) % 2) 1)
    ≡ (not (marks_h (undefined_of (by_sum k))) && ltb (low k a % 16) (low k b % 16 + o))
half_less Byte a b o h i = carried_less a b (low 8 a) (low 8 b) o _ _ _ _ (above 8 a (omega arith)) (above 8 b (omega arith)) h 8 (less_even 8 (low 8 a) (low 8 b) o (omega arith) i)
half_less Word a b o h i = carried_less a b (low 16 a) (low 16 b) o _ _ _ _ (above 16 a (omega arith)) (above 16 b (omega arith)) h 2048 (less_even 16 (low 16 a) (low 16 b) o (omega arith) i)
half_less Long a b o h i = refl
