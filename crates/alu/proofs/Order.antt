-- After a comparison the conditions order the operands (specs/Meaning.antt), once over the width.
use mathlib.Core.Path.{◌≡◌, refl, ap, sym, ◌∙◌}
use mathlib.Core.Bool.{Bool, true, false, not, cond, ◌||◌, beq}
use Prim.Native.Nat.{ℕ, ◌+◌, ◌-◌, ◌*◌, ◌^◌, ◌≤◌, ◌<◌}
use native.Mathlib.Nat.{mod-lt, add-zero, mul-one, mul-zero, lt_of_not-le}
use native.Mathlib.Decide.{dec_le}
use native.Mathlib.Omega.{arith}
use lib.Dec.{leb, ltb, eqb}
use lib.Pow.{pow_pos}
use borrow.Author.Tests.{lt-ltb, le-ltb, le-leb, lt-leb, leb-true, leb-false, eq-eqb, ne_eqb, eqb-true, eqb-false}
use Rattle.alu.specs.declared.Arith.TheVariants.{Cp}
use Rattle.flags.specs.Width.{low, negative, one}
use Rattle.flags.specs.Sums.{turned, result_of, difference_of}
use Rattle.flags.specs.declared.Flags.{Flags}
use Rattle.alu.specs.Operation.{operated}
use Rattle.flags.specs.Condition.{less_than, basic, holds_of}
use Rattle.flags.specs.Meaning.{off}
use Rattle.alu.specs.Meaning.{ComparisonOrders}
use Rattle.flags.proofs.Widths.{twice}
use Rattle.flags.proofs.Undefined.{sum_defines_v}
use Rattle.alu.proofs.Ranges.{difference_lt}
use Rattle.alu.proofs.Results.{compared_same, exact}

-- r is x - y of numbers below h + h, with h + h borrowed where x is below y; b, d, e and w are the tests of x, y, r and the borrow
module _ (h x y r : ℕ) (hx : x < h + h) (hy : y < h + h) (hr : r < h + h) where
  -- a number is at least h, or below it
  abbrev Side : Bool → ℕ → Type 0
  Side b z = cond {A = Type 0} b (h ≤ z) (z < h)

  by_signs :
      (b d e w : Bool) → Side b x → Side d y → Side e r → r + y ≡ x + cond w (h + h) 0 →
      not (beq e (turned b (not d) e)) ≡ ltb (x + cond d (h + h) 0) (y + cond b (h + h) 0)
  by_signs true true true true p q s f = sym (lt-ltb (x + (h + h)) (y + (h + h)) (omega arith))
  by_signs true true true false p q s f = sym (lt-ltb (x + (h + h)) (y + (h + h)) (omega arith))
  by_signs true true false true p q s f = sym (le-ltb (x + (h + h)) (y + (h + h)) (omega arith))
  by_signs true true false false p q s f = sym (le-ltb (x + (h + h)) (y + (h + h)) (omega arith))
  by_signs true false true true p q s f = sym (lt-ltb (x + 0) (y + (h + h)) (omega arith))
  by_signs true false true false p q s f = sym (lt-ltb (x + 0) (y + (h + h)) (omega arith))
  by_signs true false false true p q s f = sym (lt-ltb (x + 0) (y + (h + h)) (omega arith))
  by_signs true false false false p q s f = sym (lt-ltb (x + 0) (y + (h + h)) (omega arith))
  by_signs false true true true p q s f = sym (le-ltb (x + (h + h)) (y + 0) (omega arith))
  by_signs false true true false p q s f = sym (le-ltb (x + (h + h)) (y + 0) (omega arith))
  by_signs false true false true p q s f = sym (le-ltb (x + (h + h)) (y + 0) (omega arith))
  by_signs false true false false p q s f = sym (le-ltb (x + (h + h)) (y + 0) (omega arith))
  by_signs false false true true p q s f = sym (lt-ltb (x + 0) (y + 0) (omega arith))
  by_signs false false true false p q s f = sym (lt-ltb (x + 0) (y + 0) (omega arith))
  by_signs false false false true p q s f = sym (le-ltb (x + 0) (y + 0) (omega arith))
  by_signs false false false false p q s f = sym (le-ltb (x + 0) (y + 0) (omega arith))

  side : (z : ℕ) → Side (leb h z) z
  side z = go (leb h z) refl
    where
      go : (b : Bool) → leb h z ≡ b → Side b z
      go true e = leb-true h z e
      go false e = leb-false h z e

-- S differs from V exactly where the number of x, with its sign, is below that of y
signed_less :
    (m h x y r : ℕ) (w : Bool) → m ≡ h + h → x < m → y < m → r < m → r + y ≡ x + cond w m 0 →
    not (beq (leb h r) (turned (leb h x) (not (leb h y)) (leb h r))) ≡ ltb (x + cond (leb h y) m 0) (y + cond (leb h x) m 0)
signed_less m h x y r w e hx hy hr f =
    let px : x < h + h = omega arith in
    let py : y < h + h = omega arith in
    let pr : r < h + h = omega arith in
    rw e
    (by_signs h x y r px py pr (leb h x) (leb h y) (leb h r) w (side h x y r px py pr x) (side h x y r px py pr y) (side h x y r px py pr r) (rw e at f))

-- equal with a sign and without one
same_test : (a b c d : ℕ) → (a ≡ b → c ≡ d) → (c ≡ d → a ≡ b) → eqb a b ≡ eqb c d
same_test a b c d f g = go (eqb a b) refl
  where
    go : (t : Bool) → eqb a b ≡ t → t ≡ eqb c d
    go true e = sym (eq-eqb c d (f (eqb-true a b e)))
    go false e = sym (ne_eqb c d (λ z. eqb-false a b e (g z)))

module _ (m h x y : ℕ) (e : m ≡ h + h) (hx : x < m) (hy : y < m) where
  equal_signed :
      (b d : Bool) → leb h x ≡ b → leb h y ≡ d → eqb x y ≡ eqb (x + cond d m 0) (y + cond b m 0)
  equal_signed true true p q = same_test x y (x + m) (y + m) (λ z. omega arith) (λ z. omega arith)
  equal_signed true false p q =
      let s = leb-true h x p in
      let t = leb-false h y q in
      same_test x y (x + 0) (y + m) (λ z. omega arith) (λ z. omega arith)
  equal_signed false true p q =
      let s = leb-false h x p in
      let t = leb-true h y q in
      same_test x y (x + m) (y + 0) (λ z. omega arith) (λ z. omega arith)
  equal_signed false false p q = same_test x y (x + 0) (y + 0) (λ z. omega arith) (λ z. omega arith)

-- below or equal
at_most_test : (x y : ℕ) → (ltb x y || eqb x y) ≡ leb x y
at_most_test x y = go (dec_le x y) (dec_le y x)
  where
    go : Dec (x ≤ y) → Dec (y ≤ x) → (ltb x y || eqb x y) ≡ leb x y
    go (yes p) (yes q) = rw (le-ltb x y q, le-leb x y p, eq-eqb x y (omega arith))
    go (yes p) (no q) = rw (lt-ltb x y (lt_of_not-le q), le-leb x y p)
    go (no p) d =
        let l : y < x = lt_of_not-le p in
        rw (le-ltb x y (omega arith), lt-leb x y l, ne_eqb x y (λ z. omega arith))

or_comm : (a b : Bool) → (a || b) ≡ (b || a)
or_comm true true = refl
or_comm true false = refl
or_comm false true = refl
or_comm false false = refl

borrowed : (m : ℕ) (w : Bool) → m * one w ≡ cond w m 0
borrowed m true = mul-one m
borrowed m false = mul-zero m

-- ---- the flags of a comparison
module _ (k a b : ℕ) (c : Bool) (p : 0 < k) where
  abbrev f : Flags
  f = (operated Cp k a b c).flags

  carry_below : f.c ≡ ltb (low k a) (low k b)
  unfolding operated difference_of result_of
  carry_below = ap (ltb (low k a)) (add-zero (low k b))

  signs_less : less_than f ≡ ltb (low k a + off k (low k b)) (low k b + off k (low k a))
  unfolding operated difference_of result_of
  signs_less =
      ap (λ (v : Bool). not (beq f.s v)) (sum_defines_v k _)
      ∙ signed_less (2 ^ k) (2 ^ (k - 1)) (low k a) (low k b) (difference_of k a b false).value (ltb (low k a) (low k b + 0)) (twice k p) (mod-lt a (pow_pos k)) (mod-lt b (pow_pos k)) (difference_lt k a b false)
      (sym (add-zero _) ∙ exact k a b ∙ ap (λ (n : ℕ). low k a + n) (borrowed (2 ^ k) (ltb (low k a) (low k b + 0))))

  zero_signed : f.z ≡ eqb (low k a + off k (low k b)) (low k b + off k (low k a))
  zero_signed =
      compared_same k a b c
      ∙ equal_signed (2 ^ k) (2 ^ (k - 1)) (low k a) (low k b) (twice k p) (mod-lt a (pow_pos k)) (mod-lt b (pow_pos k)) (negative k (low k a)) (negative k (low k b)) refl refl

pub comparison_orders : ComparisonOrders
unfolding holds_of basic
comparison_orders k a b c p = record {
  below = carry_below k a b c p;
  at_most = rw (carry_below k a b c p, compared_same k a b c) (at_most_test (low k a) (low k b));
  less = signs_less k a b c p;
  less_or_equal = or_comm (f k a b c p).z (less_than (f k a b c p)) ∙ rw (signs_less k a b c p, zero_signed k a b c p) (at_most_test (low k a + off k (low k b)) (low k b + off k (low k a)));
}
