-- What the functions of feed::scale make of signs and of how large numbers are is what the definitions say, once over the width.
use mathlib.Core.Path.{◌≡◌, refl, sym, ap, ap₂, ◌∙◌}
use mathlib.Core.Bool.{Bool, true, false, not, cond, ◌||◌}
use Prim.Native.Nat.{ℕ, suc, ◌+◌, ◌-◌, ◌*◌, ◌/◌, ◌%◌, ◌^◌, ◌≤◌, ◌<◌}
use native.Mathlib.Nat.{mod-lt, mul-le-mul, mul-pos, pow-suc, pos_of_ne-zero}
use native.Mathlib.Omega.{arith}
use lib.Dec.{leb, eqb, lit<}
use lib.IntN.{ℤ}
use lib.Pow.{pow_pos, pow-add}
use borrow.Author.Tests.{le-leb, lt-leb, eq-eqb, ne_eqb}
use Rattle.little.specs.declared.Size.{Size}
use Rattle.little.specs.declared.Size.TheVariants.{Byte, Word, Long}
use Rattle.little.specs.Width.{bits_of}
use Rattle.flags.specs.Width.{low, negative}
use Rattle.flags.proofs.Widths.{twice}
use Rattle.feed.specs.declared.scale.Divided.{Divided}
use Rattle.feed.specs.Scale.{bits_for, holds_signed, muls_of, div_of, divs_of, kept_as, halves_of}
use Rattle.feed.specs.inner.Sign.{magnitude_of, with_sign, largest_of}
use Rattle.feed.proofs.Signs.{sg, differ, turned_in, size_in, product_is, quotient_is, remainder_is, magnitude_le, magnitude_pos, bits, holds, largest_le}

-- ---- the two widths
-- the bits of half a size
abbrev pub half_of : Size → ℕ
half_of size = bits_of size / 2

twice_half : (size : Size) → 2 * half_of size ≡ bits_of size
twice_half Byte = refl
twice_half Word = refl
twice_half Long = refl

pub half_pos : (size : Size) → 0 < half_of size
half_pos Byte = lit< tt
half_pos Word = lit< tt
half_pos Long = lit< tt

-- the weight of the top bit of 2 k bits
top_square : (k : ℕ) → 0 < k → 2 ^ (2 * k - 1) ≡ 2 * (2 ^ (k - 1) * 2 ^ (k - 1))
top_square k p =
    let e : 2 * k - 1 ≡ suc ((k - 1) + (k - 1)) = omega arith in
    let f = pow-suc 2 ((k - 1) + (k - 1)) in
    let g = pow-add 2 (k - 1) (k - 1) in
    ap (λ (n : ℕ). 2 ^ n) e ∙ omega arith

-- a number in k bits is below twice the weight of their top bit
pub low_lt : (k a : ℕ) {t x : ℕ} → 0 < k → t ≡ 2 ^ (k - 1) → x ≡ low k a → x < 2 * t
low_lt k a p et ex =
    let h : low k a < 2 ^ k = mod-lt a (pow_pos k) in
    omega (arith, twice k p)

-- a divisor other than 0 is so without its sign
pub divisor_pos :
    (size : Size) (b : ℕ) {t y n : ℕ} → t ≡ 2 ^ (half_of size - 1) → y ≡ low (half_of size) b → (y ≡ 0 → ⊥) → n ≡ magnitude_of t y → 0 < n
divisor_pos size b {t} {y} et ey f en =
    rw en (magnitude_pos t y (pos_of_ne-zero f) (low_lt (half_of size) b (half_pos size) et ey))

-- ---- products
-- two numbers of at most 16 bits
pub product_lt : {m n : ℕ} → m < 65536 → n < 65536 → m * n < 4294967296
product_lt {m} {n} hm hn =
    let a : m ≤ 65535 = omega arith in
    let b : n ≤ 65535 = omega arith in
    let h : m * n ≤ 65535 * 65535 = mul-le-mul a b in
    omega arith

product_le : (k m n : ℕ) → 0 < k → m ≤ 2 ^ (k - 1) → n ≤ 2 ^ (k - 1) → m * n < 2 ^ (2 * k - 1)
product_le k m n p hm hn =
    let t = 2 ^ (k - 1) in
    let h : m * n ≤ t * t = mul-le-mul hm hn in
    let q : 0 < t * t = mul-pos (pow_pos (k - 1)) (pow_pos (k - 1)) in
    omega (arith, top_square k p)

pub size_product_lt : (k x y : ℕ) → 0 < k → size_in k x * size_in k y < 2 ^ (2 * k - 1)
size_product_lt k x y p =
    product_le k (size_in k x) (size_in k y) p (magnitude_le (2 ^ (k - 1)) x) (magnitude_le (2 ^ (k - 1)) y)

-- what the sign is put to is at most the weight of the top bit
pub product_top :
    (size : Size) {t m n s : ℕ} → t ≡ 2 ^ (half_of size - 1) → s ≡ 2 ^ (bits_of size - 1) → m ≤ t → n ≤ t → m * n ≤ s
product_top size {m = m} {n = n} et es hm hn =
    let h = product_le (half_of size) m n (half_pos size) (rw et at hm) (rw et at hn) in
    let f : 2 ^ (2 * half_of size - 1) ≡ 2 ^ (bits_of size - 1) = ap (λ (j : ℕ). 2 ^ (j - 1)) (twice_half size) in
    omega arith

muls_is :
    (k a b : ℕ) → 0 < k →
    muls_of k a b ≡ with_sign (2 ^ (2 * k - 1)) (turned_in k k (low k a) (low k b)) (size_in k (low k a) * size_in k (low k b))
unfolding muls_of
muls_is k a b p =
    let x = low k a in
    let y = low k b in
    let q : 0 < 2 * k = omega arith in
    let l : size_in k x * size_in k y < 2 ^ (2 * k) = omega (arith, size_product_lt k x y p, twice (2 * k) q) in
    ap (bits_for (2 * k)) (product_is k x y p) ∙ bits (2 * k) (turned_in k k x y) (size_in k x * size_in k y) q l

-- as the function has it
pub muls_made :
    (size : Size) (a b : ℕ) {t x y m n s : ℕ} →
    t ≡ 2 ^ (half_of size - 1) → x ≡ low (half_of size) a → y ≡ low (half_of size) b →
    m ≡ magnitude_of t x → n ≡ magnitude_of t y → s ≡ 2 ^ (bits_of size - 1) →
    with_sign s (differ (leb t x) (leb t y)) (m * n) ≡ muls_of (half_of size) a b
muls_made size a b et ex ey em en es =
    rw (es, em, en, ex, ey, et) (sym (rw (twice_half size) at (muls_is (half_of size) a b (half_pos size))))

-- ---- quotients
-- both halves, of at most 16 bits each
pub halves_lt : {t q r : ℕ} → t ≤ 32768 → q < 2 * t → r < 2 * t → r * (2 * t) + q < 4294967296
halves_lt {t} {q} {r} ht hq hr =
    let a : r ≤ 65535 = omega arith in
    let b : 2 * t ≤ 65536 = omega arith in
    let h : r * (2 * t) ≤ 65535 * 65536 = mul-le-mul a b in
    omega arith

pub halves_made :
    (k t q r : ℕ) → 0 < k → t ≡ 2 ^ (k - 1) → ◌≡◌ {A = Divided} (record { value = r * (2 * t) + q; over = false }) (halves_of k q r)
halves_made k t q r p e =
    let h : 2 * t ≡ 2 ^ k = omega (arith, twice k p) in
    rw h refl

or_true : (b : Bool) → (b || true) ≡ true
or_true true = refl
or_true false = refl

-- as the functions have them, after t, x and y
module _
    (size : Size) (a b : ℕ) {t x y : ℕ}
    (et : t ≡ 2 ^ (half_of size - 1)) (ex : x ≡ low (bits_of size) a) (ey : y ≡ low (half_of size) b)
  where
    pub div_none : y ≡ 0 → kept_as x ≡ div_of (half_of size) a b
    unfolding div_of
    div_none h = rw (twice_half size, ← ex, ← ey, eq-eqb y 0 h) refl

    pub divs_none : y ≡ 0 → kept_as x ≡ divs_of (half_of size) a b
    unfolding divs_of
    divs_none h = rw (twice_half size, ← ex, ← ey, eq-eqb y 0 h) refl

    -- 2 to the bits of the lower half
    half_twice : 2 ^ half_of size ≡ 2 * t
    half_twice = omega (arith, twice (half_of size) (half_pos size))

    pub div_large : 2 * t ≤ x / y → kept_as x ≡ div_of (half_of size) a b
    unfolding div_of
    div_large h = rw (twice_half size, ← ex, ← ey, half_twice, le-leb (2 * t) (x / y) h, or_true (eqb y 0)) refl

    pub div_fit : (y ≡ 0 → ⊥) → x / y < 2 * t → halves_of (half_of size) (x / y) (x % y) ≡ div_of (half_of size) a b
    unfolding div_of
    div_fit f h = rw (twice_half size, ← ex, ← ey, half_twice, ne_eqb y 0 f, lt-leb (2 * t) (x / y) h) refl

-- what is left of a quotient q and a remainder r
abbrev chosen : ℕ → ℕ → ℕ → ℤ → ℤ → Divided
chosen k x y q r = cond (eqb y 0 || not (holds_signed k q)) (kept_as x) (halves_of k (bits_for k q) (bits_for k r))

module _ (k t x y q r : ℕ) (d e : Bool) (p : 0 < k) (et : t ≡ 2 ^ (k - 1)) where
  chosen_large : largest_of t d < q → chosen k x y (sg d q) (sg e r) ≡ kept_as x
  chosen_large h =
      let l : holds_signed k (sg d q) ≡ false = holds k d q ∙ rw (← et) (lt-leb q (largest_of t d) h) in
      rw (l, or_true (eqb y 0)) refl

  chosen_fit :
      (y ≡ 0 → ⊥) → q ≤ largest_of t d → r ≤ t →
      chosen k x y (sg d q) (sg e r) ≡ halves_of k (with_sign t d q) (with_sign t e r)
  chosen_fit f h l =
      let w = twice k p in
      let o = pow_pos (k - 1) in
      let hq : q < 2 ^ k = omega (arith, largest_le t d) in
      let hr : r < 2 ^ k = omega arith in
      let held : holds_signed k (sg d q) ≡ true = holds k d q ∙ rw (← et) (le-leb q (largest_of t d) h) in
      rw (ne_eqb y 0 f, held, et) (ap₂ (halves_of k) (bits k d q p hq) (bits k e r p hr))

module _ (k a b : ℕ) (p : 0 < k) where
  abbrev x : ℕ
  x = low (2 * k) a

  abbrev y : ℕ
  y = low k b

  divs_is :
      divs_of k a b
      ≡ chosen k x y (sg (turned_in (2 * k) k x y) (size_in (2 * k) x / size_in k y)) (sg (negative (2 * k) x) (size_in (2 * k) x % size_in k y))
  unfolding divs_of
  divs_is =
      let o : 0 < 2 * k = omega arith in
      ap₂ (chosen k x y) (quotient_is (2 * k) k x y o p) (remainder_is (2 * k) k x y o p)

-- as the function has them, after m and n
module _
    (size : Size) (a b : ℕ) {t s x y m n : ℕ}
    (et : t ≡ 2 ^ (half_of size - 1)) (es : s ≡ 2 ^ (bits_of size - 1)) (ex : x ≡ low (bits_of size) a) (ey : y ≡ low (half_of size) b)
    (em : m ≡ magnitude_of s x) (en : n ≡ magnitude_of t y)
  where
    -- the signs of the quotient and of the remainder
    abbrev d : Bool
    d = differ (leb s x) (leb t y)

    abbrev e : Bool
    e = leb s x

    divs_as : divs_of (half_of size) a b ≡ chosen (half_of size) x y (sg d (m / n)) (sg e (m % n))
    divs_as = rw (em, en, es, et, ex, ey) (rw (twice_half size) at (divs_is (half_of size) a b (half_pos size)))

    pub divs_large : largest_of t d < m / n → kept_as x ≡ divs_of (half_of size) a b
    divs_large h = sym (divs_as ∙ chosen_large (half_of size) t x y (m / n) (m % n) d e (half_pos size) et h)

    pub divs_fit :
        (y ≡ 0 → ⊥) → m / n ≤ largest_of t d → m % n ≤ t →
        halves_of (half_of size) (with_sign t d (m / n)) (with_sign t e (m % n)) ≡ divs_of (half_of size) a b
    divs_fit f h l = sym (divs_as ∙ chosen_fit (half_of size) t x y (m / n) (m % n) d e (half_pos size) et f h l)
