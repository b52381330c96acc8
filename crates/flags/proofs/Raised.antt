-- A number of k bits at the top of 32: sums, differences and their flags there are those of its own width.
use mathlib.Core.Path.{◌≡◌, refl, sym, ap, ap₂, ◌∙◌}
use mathlib.Core.Bool.{Bool, true, false, not, ◌&&◌}
use Prim.Native.Nat.{ℕ, ◌+◌, ◌-◌, ◌*◌, ◌/◌, ◌%◌, ◌^◌, ◌≤◌, ◌<◌}
use native.Mathlib.Nat.{add-mul, zero-mul, one-mul, mul-le-mul_right, mul-lt-mul_of_pos_right, mod-lt, mod-eq_of_lt}
use native.Mathlib.Omega.{arith}
use lib.Dec.{leb, ltb, eqb, lit<}
use lib.Pow.{pow-add, pow_pos, pow_mono, shl-shr}
use Rattle.little.specs.declared.Size.{Size}
use Rattle.little.specs.Width.{bits_of}
use borrow.Author.Tests.{le-leb, lt-leb, lt-ltb, le-ltb, eq-eqb, ne_eqb, leb-true, leb-false, ltb-true, ltb-false, eqb-true, eqb-false}
use Rattle.flags.specs.Width.{low, one, negative}
use Rattle.flags.specs.Sums.{turned, result_of, sum_of, difference_of}
use Rattle.flags.specs.Undefined.{by_sum, undefined_of}
use Rattle.flags.specs.declared.Computed.{Computed}
use Rattle.flags.proofs.Widths.{one_le, bits_pos, bits_le, raised_mod}
use Rattle.flags.proofs.Half.{half_sum, half_less}
use Rattle.flags.proofs.Undefined.{sum_defines_v}

-- ---- tests of numbers that are raised alike
module _ (d : ℕ) (p : 0 < d) where
  raised_leb : (x y : ℕ) → leb (x * d) (y * d) ≡ leb x y
  raised_leb x y = go (leb x y) refl
    where
      go : (b : Bool) → leb x y ≡ b → leb (x * d) (y * d) ≡ b
      go true e = le-leb (x * d) (y * d) (mul-le-mul_right d (leb-true x y e))
      go false e = lt-leb (x * d) (y * d) (mul-lt-mul_of_pos_right (leb-false x y e) p)

  raised_ltb : (x y : ℕ) → ltb (x * d) (y * d) ≡ ltb x y
  raised_ltb x y = go (ltb x y) refl
    where
      go : (b : Bool) → ltb x y ≡ b → ltb (x * d) (y * d) ≡ b
      go true e = lt-ltb (x * d) (y * d) (mul-lt-mul_of_pos_right (ltb-true x y e) p)
      go false e = le-ltb (x * d) (y * d) (mul-le-mul_right d (ltb-false x y e))

  raised_zero : (x : ℕ) → eqb (x * d) 0 ≡ eqb x 0
  raised_zero x = go (eqb x 0) refl
    where
      go : (b : Bool) → eqb x 0 ≡ b → eqb (x * d) 0 ≡ b
      go true e = eq-eqb (x * d) 0 (ap (λ (n : ℕ). n * d) (eqb-true x 0 e) ∙ zero-mul d)
      go false e =
          let n : 0 < x = omega (arith, eqb-false x 0 e) in
          let l : 0 * d < x * d = mul-lt-mul_of_pos_right n p in
          ne_eqb (x * d) 0 (λ z. omega (arith, zero-mul d))

-- ---- at the top of 32 bits
module _ (k : ℕ) (pos : 0 < k) (most : k ≤ 32) where
  abbrev d : ℕ
  d = 2 ^ (32 - k)

  pd : 0 < d
  pd = pow_pos (32 - k)

  whole : 2 ^ (k + (32 - k)) ≡ 4294967296
  whole = let e : k + (32 - k) ≡ 32 = omega arith in ap (λ (n : ℕ). 2 ^ n) e

  pub whole_product : 4294967296 ≡ 2 ^ k * d
  whole_product = sym whole ∙ pow-add 2 k (32 - k)

  half_product : 2147483648 ≡ 2 ^ (k - 1) * d
  half_product =
      let e : 31 ≡ k - 1 + (32 - k) = omega arith in
      ap (λ (n : ℕ). 2 ^ n) e ∙ pow-add 2 (k - 1) (32 - k)

  -- the low bits of a number, raised
  pub up : (a : ℕ) → a * d % 4294967296 ≡ low k a * d
  up a = ap (λ (w : ℕ). a * d % w) (sym whole) ∙ raised_mod k (32 - k) a

  -- the carry in, raised: it fits
  pub carry_le : (o : ℕ) → o ≤ 1 → o * d ≤ 4294967296
  carry_le o h =
      let l : o * d ≤ 1 * d = mul-le-mul_right d h in
      let m : d ≤ 2 ^ 32 = pow_mono {i = 32 - k} {j = 32} (omega arith) in
      omega (arith, one-mul d)

  pub carry_up : (o : ℕ) → o ≤ 1 → o * d % 18446744073709551616 ≡ o * d
  carry_up o h = mod-eq_of_lt {n = o * d} {m = 18446744073709551616} (omega (arith, carry_le o h))

  pub sign_up : (x : ℕ) → leb 2147483648 (x * d) ≡ negative k x
  sign_up x = ap (λ (t : ℕ). leb t (x * d)) half_product ∙ raised_leb d pd (2 ^ (k - 1)) x

  pub zero_up : (x : ℕ) → eqb (x * d) 0 ≡ eqb x 0
  zero_up = raised_zero d pd

  pub carry_out : (s : ℕ) → leb 4294967296 (s * d) ≡ leb (2 ^ k) s
  carry_out s = ap (λ (t : ℕ). leb t (s * d)) whole_product ∙ raised_leb d pd (2 ^ k) s

  pub borrow_out : (x y : ℕ) → ltb (x * d) (y * d) ≡ ltb x y
  borrow_out = raised_ltb d pd

  pub down : (x : ℕ) → x * d / d ≡ x
  down x = shl-shr x (32 - k)

  -- the operands raised, and their sum and difference
  pub sum_up : (x y o : ℕ) → x * d + y * d + o * d ≡ (x + y + o) * d
  sum_up x y o = sym (add-mul (x + y) o d ∙ ap (λ (n : ℕ). n + o * d) (add-mul x y d))

  pub less_up : (x y o : ℕ) → y + o ≤ 2 ^ k + x → 4294967296 + x * d - (y * d + o * d) ≡ (2 ^ k + x - (y + o)) * d
  less_up x y o h =
      let t : ℕ = 2 ^ k + x - (y + o) in
      let e : 2 ^ k + x ≡ t + (y + o) = omega arith in
      let f : 2 ^ k * d + x * d ≡ t * d + (y * d + o * d) =
      sym (add-mul (2 ^ k) x d) ∙ ap (λ (n : ℕ). n * d) e ∙ add-mul t (y + o) d ∙ ap (λ (n : ℕ). t * d + n) (add-mul y o d) in
      omega (arith, whole_product)

-- ---- the results
same_computed :
    {r x m q : ℕ} {s z h v c t w i u d : Bool} (n : Bool) → r ≡ x → s ≡ t → z ≡ w → h ≡ i → v ≡ u → c ≡ d → m ≡ q →
    ◌≡◌ {A = Computed}
    record { value = r; flags = record { s = s; z = z; h = h; v = v; n = n; c = c; marks = m } }
    record { value = x; flags = record { s = t; z = w; h = i; v = u; n = n; c = d; marks = q } }
same_computed n er es ez eh ev ec em = rw (er, es, ez, eh, ev, ec, em) refl

module _ (z : Size) (a b : ℕ) (c : Bool) (j o : ℕ) (room : j ≡ 32 - bits_of z) (carry : o ≡ one c) where
  abbrev k : ℕ
  k = bits_of z

  abbrev x : ℕ
  x = a * 2 ^ j % 4294967296

  abbrev y : ℕ
  y = b * 2 ^ j % 4294967296

  abbrev i : ℕ
  i = o * 2 ^ j % 18446744073709551616

  carried : o ≤ 1
  carried = rw carry (one_le c)

  x_up : x ≡ low k a * 2 ^ (32 - k)
  x_up = rw room (up k (bits_pos z) (bits_le z) a)

  y_up : y ≡ low k b * 2 ^ (32 - k)
  y_up = rw room (up k (bits_pos z) (bits_le z) b)

  i_up : i ≡ o * 2 ^ (32 - k)
  i_up = rw room (carry_up k (bits_pos z) (bits_le z) o carried)

  -- ---- ADD and ADC
  abbrev sum : ℕ
  sum = x + y + i

  total : sum ≡ (low k a + low k b + one c) * 2 ^ (32 - k)
  total = rw (x_up, y_up, i_up, carry) (sum_up k (bits_pos z) (bits_le z) (low k a) (low k b) (one c))

  r_up : sum % 4294967296 ≡ (low k a + low k b + one c) % 2 ^ k * 2 ^ (32 - k)
  r_up = ap (λ (n : ℕ). n % 4294967296) total ∙ up k (bits_pos z) (bits_le z) (low k a + low k b + one c)

  value : sum % 4294967296 / 2 ^ j ≡ (low k a + low k b + one c) % 2 ^ k
  value = rw (r_up, room) (down k (bits_pos z) (bits_le z) ((low k a + low k b + one c) % 2 ^ k))

  sign_of : (n m : ℕ) → n ≡ m * 2 ^ (32 - k) → leb 2147483648 n ≡ negative k m
  sign_of n m e = ap (leb 2147483648) e ∙ sign_up k (bits_pos z) (bits_le z) m

  zero_of : (n m : ℕ) → n ≡ m * 2 ^ (32 - k) → eqb n 0 ≡ eqb m 0
  zero_of n m e = ap (λ (t : ℕ). eqb t 0) e ∙ zero_up k (bits_pos z) (bits_le z) m

  pub sum_fits : sum < 18446744073709551616
  sum_fits = omega (arith, mod-lt (a * 2 ^ j) {m = 4294967296} (lit< tt), mod-lt (b * 2 ^ j) {m = 4294967296} (lit< tt), i_up, carry_le k (bits_pos z) (bits_le z) o carried)

  pub sum_raised :
      (h v : Bool) (m : ℕ)
      → h ≡ (eqb (j / 16 % 2) 1 && eqb ((a / 16 + b / 16 + sum % 4294967296 / 2 ^ j / 16) % 2) 1)
      → v ≡ turned (negative 32 x) (negative 32 y) (negative 32 (sum % 4294967296))
      → m ≡ undefined_of (by_sum k)
      → ◌≡◌ {A = Computed}
      record { value = sum % 4294967296 / 2 ^ j; flags = record { s = leb 2147483648 (sum % 4294967296); z = eqb (sum % 4294967296) 0; h = h; v = v; n = false; c = leb 4294967296 sum; marks = m } }
      (sum_of k a b c)
  unfolding sum_of result_of
  sum_raised h v m eh ev em =
      same_computed false
      value
      (sign_of (sum % 4294967296) _ r_up)
      (zero_of (sum % 4294967296) _ r_up)
      (eh
      ∙ ap (λ (n : ℕ). eqb (j / 16 % 2) 1 && eqb ((a / 16 + b / 16 + n / 16) % 2) 1) value
      ∙ ap (λ (n : ℕ). eqb (n / 16 % 2) 1 && eqb ((a / 16 + b / 16 + (low k a + low k b + one c) % 2 ^ k / 16) % 2) 1) room
      ∙ half_sum z a b (one c) (one_le c))
      (ev
      ∙ ap₂ (λ (p q : Bool). turned p q (negative 32 (sum % 4294967296))) (sign_of x _ x_up) (sign_of y _ y_up)
      ∙ ap (turned (negative k (low k a)) (negative k (low k b))) (sign_of (sum % 4294967296) _ r_up)
      ∙ sym (sum_defines_v k _))
      (ap (leb 4294967296) total ∙ carry_out k (bits_pos z) (bits_le z) (low k a + low k b + one c))
      em

  -- ---- SUB, SBC and CP
  abbrev gap : ℕ
  gap = 2 ^ k + low k a - (low k b + one c)

  enough : low k b + one c ≤ 2 ^ k + low k a
  enough = omega (arith, mod-lt b (pow_pos k), one_le c)

  less_raised : y + i ≡ (low k b + one c) * 2 ^ (32 - k)
  less_raised = rw (y_up, i_up, carry) (sym (add-mul (low k b) (one c) (2 ^ (32 - k))))

  whole_less : 4294967296 + x - (y + i) ≡ gap * 2 ^ (32 - k)
  whole_less = rw (x_up, y_up, i_up, carry) (less_up k (bits_pos z) (bits_le z) (low k a) (low k b) (one c) enough)

  gap_up : (4294967296 + x - (y + i)) % 4294967296 ≡ gap % 2 ^ k * 2 ^ (32 - k)
  gap_up = ap (λ (n : ℕ). n % 4294967296) whole_less ∙ up k (bits_pos z) (bits_le z) gap

  rest : (4294967296 + x - (y + i)) % 4294967296 / 2 ^ j ≡ gap % 2 ^ k
  rest = rw (gap_up, room) (down k (bits_pos z) (bits_le z) (gap % 2 ^ k))

  pub less_fits : y + i < 18446744073709551616
  less_fits = omega (arith, mod-lt (b * 2 ^ j) {m = 4294967296} (lit< tt), i_up, carry_le k (bits_pos z) (bits_le z) o carried)

  pub less_le : y + i ≤ 4294967296 + x
  less_le =
      let l : (low k b + one c) * 2 ^ (32 - k) ≤ (2 ^ k + low k a) * 2 ^ (32 - k) = mul-le-mul_right (2 ^ (32 - k)) enough in
      omega (arith, less_raised, x_up, whole_product k (bits_pos z) (bits_le z), add-mul (2 ^ k) (low k a) (2 ^ (32 - k)))

  pub difference_raised :
      (h v : Bool) (m : ℕ)
      → h ≡ (eqb (j / 16 % 2) 1 && eqb ((a / 16 + b / 16 + (4294967296 + x - (y + i)) % 4294967296 / 2 ^ j / 16) % 2) 1)
      → v ≡ turned (negative 32 x) (not (negative 32 y)) (negative 32 ((4294967296 + x - (y + i)) % 4294967296))
      → m ≡ undefined_of (by_sum k)
      → ◌≡◌ {A = Computed}
      record {
        value = (4294967296 + x - (y + i)) % 4294967296 / 2 ^ j;
        flags = record { s = leb 2147483648 ((4294967296 + x - (y + i)) % 4294967296); z = eqb ((4294967296 + x - (y + i)) % 4294967296) 0; h = h; v = v; n = true; c = ltb x (y + i); marks = m };
      }
      (difference_of k a b c)
  unfolding difference_of result_of
  difference_raised h v m eh ev em =
      same_computed true
      rest
      (sign_of ((4294967296 + x - (y + i)) % 4294967296) _ gap_up)
      (zero_of ((4294967296 + x - (y + i)) % 4294967296) _ gap_up)
      (eh
      ∙ ap (λ (n : ℕ). eqb (j / 16 % 2) 1 && eqb ((a / 16 + b / 16 + n / 16) % 2) 1) rest
      ∙ ap (λ (n : ℕ). eqb (n / 16 % 2) 1 && eqb ((a / 16 + b / 16 + gap % 2 ^ k / 16) % 2) 1) room
      ∙ half_less z a b (one c) (one_le c) enough)
      (ev
      ∙ ap₂ (λ (p q : Bool). turned p (not q) (negative 32 ((4294967296 + x - (y + i)) % 4294967296))) (sign_of x _ x_up) (sign_of y _ y_up)
      ∙ ap (turned (negative k (low k a)) (not (negative k (low k b)))) (sign_of ((4294967296 + x - (y + i)) % 4294967296) _ gap_up)
      ∙ sym (sum_defines_v k _))
      (ap₂ ltb x_up less_raised ∙ borrow_out k (bits_pos z) (bits_le z) (low k a) (low k b + one c))
      em
