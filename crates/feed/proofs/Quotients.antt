-- A division has one quotient and one remainder: what DIV and DIVS leave where V is 0; where V is 1, they leave the operand
-- (specs/Division.antt).
use mathlib.Core.Path.{◌≡◌, refl, sym, ap, ◌∙◌}
use mathlib.Core.Bool.{Bool, true, false, not, cond, ◌||◌}
use Prim.Native.Nat.{ℕ, ◌-◌, ◌*◌, ◌/◌, ◌%◌, ◌^◌, ◌<◌}
use native.Mathlib.Nat.{mod-lt, pos_of_ne-zero, ne_of_gt}
use native.Mathlib.Omega.{arith}
use lib.Dec.{leb, eqb}
use lib.IntN.{ℤ, nat_abs}
use lib.Signed.{quot_z, rem_z}
use lib.Pow as pow
use lib.Pow.{pow_pos}
use borrow.Author.Tests.{lt-leb, leb-false, eqb-false, ne_eqb, not-false}
use Rattle.flags.specs.Width.{low, negative}
use Rattle.flags.proofs.Widths.{twice}
use Rattle.feed.specs.declared.scale.Divided.{Divided}
use Rattle.feed.specs.Scale.{signed, bits_for, holds_signed, div_of, divs_of, kept_as, halves_of}
use Rattle.feed.specs.Division.{Divides, SignedDivides, DividesOnce, SignedDividesOnce, DivIsExact, DivsIsExact, DivFits, DivsFits, DivKeeps, quotient_in, remainder_in}
use Rattle.feed.proofs.Signs.{size_in, signed_is, abs_sg, magnitude_le, magnitude_pos, bits_lt, remainder_is, small_holds, returned}
use Rattle.feed.proofs.Once.{divided, divided_only, signed_divided, signed_divided_only}

-- ---- what is chosen by a test
module _ (k x q r : ℕ) where
  abbrev chosen : Bool → Divided
  chosen none = cond none (kept_as x) (halves_of k q r)

  none_is : (none : Bool) → (chosen none).over ≡ none
  none_is true = refl
  none_is false = refl

  kept : (none : Bool) → (chosen none).over ≡ true → (chosen none).value ≡ x
  kept true h = refl
  kept false h = let z : ◌≡◌ {A = ℕ} 0 1 = cc in absurd (omega arith)

neither : (a b : Bool) → (a || b) ≡ false → (a ≡ false) × (b ≡ false)
neither true b h = let z : ◌≡◌ {A = ℕ} 0 1 = cc in absurd (omega arith)
neither false b h = (refl, h)

-- a division of the same numbers
as_well : {x y q r q' r' : ℤ} → q' ≡ q → r' ≡ r → SignedDivides x y q r → SignedDivides x y q' r'
as_well e f d = rw (e, f) d

module _ (k a b : ℕ) where
  -- the operands
  abbrev x : ℕ
  x = low (2 * k) a

  abbrev y : ℕ
  y = low k b

  -- ---- DIV
  abbrev none : Bool
  none = eqb y 0 || leb (2 ^ k) (x / y)

  abbrev q : ℕ
  q = x / y

  abbrev r : ℕ
  r = x % y

  over_is : (div_of k a b).over ≡ none
  unfolding div_of
  over_is = none_is k x q r none

  div_kept : (div_of k a b).over ≡ true → (div_of k a b).value ≡ x
  unfolding div_of
  div_kept h = kept k x q r none h

  div_made : none ≡ false → div_of k a b ≡ halves_of k q r
  unfolding div_of
  div_made h = ap (chosen k x q r) h

  fitting : none ≡ false → (0 < y) × (q < 2 ^ k)
  fitting h =
      let n = neither (eqb y 0) (leb (2 ^ k) q) h in
      (pos_of_ne-zero (eqb-false y 0 n.0), leb-false (2 ^ k) q n.1)

  div_exact : (div_of k a b).over ≡ false → Divides x y (quotient_in k (div_of k a b)) (remainder_in k (div_of k a b))
  div_exact h =
      let n = sym over_is ∙ h in
      let f = fitting n in
      let eq : quotient_in k (div_of k a b) ≡ q = ap (quotient_in k) (div_made n) ∙ pow.low r k f.1 in
      let er : remainder_in k (div_of k a b) ≡ r = ap (remainder_in k) (div_made n) ∙ pow.high r k f.1 in
      rw (eq, er) (divided x y f.0)

  -- there is a quotient that k bits hold
  abbrev Fit : Type 0
  Fit = (q : ℕ) × (r : ℕ) × (q < 2 ^ k) × Divides x y q r

  fits_in : (div_of k a b).over ≡ false → Fit
  fits_in h =
      let f = fitting (sym over_is ∙ h) in
      (q, r, f.1, divided x y f.0)

  no_over : Fit → (div_of k a b).over ≡ false
  no_over g =
      let l = g.3.smaller in
      let p : 0 < y = omega arith in
      let h = rw (divided_only x y g.0 g.1 g.3).0 at g.2 in
      over_is ∙ rw (ne_eqb y 0 (ne_of_gt p), lt-leb (2 ^ k) q h) refl

  -- ---- DIVS: the operands, the quotient and the remainder with their signs
  abbrev X : ℤ
  X = signed (2 * k) x

  abbrev Y : ℤ
  Y = signed k y

  abbrev Q : ℤ
  Q = quot_z X Y

  abbrev R : ℤ
  R = rem_z X Y

  abbrev signed_none : Bool
  signed_none = eqb y 0 || not (holds_signed k Q)

  signed_over_is : (divs_of k a b).over ≡ signed_none
  unfolding divs_of
  signed_over_is = none_is k x (bits_for k Q) (bits_for k R) signed_none

  divs_kept : (divs_of k a b).over ≡ true → (divs_of k a b).value ≡ x
  unfolding divs_of
  divs_kept h = kept k x (bits_for k Q) (bits_for k R) signed_none h

  divs_made : signed_none ≡ false → divs_of k a b ≡ halves_of k (bits_for k Q) (bits_for k R)
  unfolding divs_of
  divs_made h = ap (chosen k x (bits_for k Q) (bits_for k R)) h

  divisor_size : 0 < k → nat_abs Y ≡ size_in k y
  divisor_size p = ap nat_abs (signed_is k y p) ∙ abs_sg (negative k y) (size_in k y)

  divisor_pos : 0 < k → (y ≡ 0 → ⊥) → 0 < nat_abs Y
  divisor_pos p f =
      let l : y < 2 ^ k = mod-lt b (pow_pos k) in
      let m : y < 2 * 2 ^ (k - 1) = omega (arith, twice k p) in
      rw (divisor_size p) (magnitude_pos (2 ^ (k - 1)) y (pos_of_ne-zero f) m)

  divisor_zero : 0 < k → y ≡ 0 → nat_abs Y ≡ 0
  divisor_zero p e = divisor_size p ∙ rw (e, lt-leb (2 ^ (k - 1)) 0 (pow_pos (k - 1))) refl

  signed_fitting : 0 < k → signed_none ≡ false → (0 < nat_abs Y) × (holds_signed k Q ≡ true)
  signed_fitting p h =
      let n = neither (eqb y 0) (not (holds_signed k Q)) h in
      (divisor_pos p (eqb-false y 0 n.0), not-false (holds_signed k Q) n.1)

  -- the remainder is smaller than the divisor, which k bits hold
  remainder_holds : 0 < k → 0 < nat_abs Y → holds_signed k R ≡ true
  remainder_holds p l =
      let m = size_in (2 * k) x in
      let n = size_in k y in
      let o : 0 < 2 * k = omega arith in
      let f = mod-lt m (rw (divisor_size p) at l) in
      let h : m % n < 2 ^ (k - 1) = omega (arith, magnitude_le (2 ^ (k - 1)) y) in
      small_holds k (negative (2 * k) x) (m % n) (remainder_is (2 * k) k x y o p) h

  divs_exact :
      0 < k → (divs_of k a b).over ≡ false →
      SignedDivides X Y (signed k (quotient_in k (divs_of k a b))) (signed k (remainder_in k (divs_of k a b)))
  divs_exact p h =
      let n = sym signed_over_is ∙ h in
      let f = signed_fitting p n in
      let l = bits_lt k Q in
      let eq : quotient_in k (divs_of k a b) ≡ bits_for k Q = ap (quotient_in k) (divs_made n) ∙ pow.low (bits_for k R) k l in
      let er : remainder_in k (divs_of k a b) ≡ bits_for k R = ap (remainder_in k) (divs_made n) ∙ pow.high (bits_for k R) k l in
      let tq = ap (signed k) eq ∙ returned k Q p f.1 in
      let tr = ap (signed k) er ∙ returned k R p (remainder_holds p f.0) in
      as_well tq tr (signed_divided X Y f.0)

  abbrev SignedFit : Type 0
  SignedFit = (q : ℤ) × (r : ℤ) × (holds_signed k q ≡ true) × SignedDivides X Y q r

  signed_fits_in : 0 < k → (divs_of k a b).over ≡ false → SignedFit
  signed_fits_in p h =
      let f = signed_fitting p (sym signed_over_is ∙ h) in
      (Q, R, f.1, signed_divided X Y f.0)

  signed_no_over : 0 < k → SignedFit → (divs_of k a b).over ≡ false
  signed_no_over p g =
      let l = g.3.smaller in
      let o : 0 < nat_abs Y = omega arith in
      let e = (signed_divided_only X Y g.0 g.1 g.3).0 in
      let h : holds_signed k Q ≡ true = ap (holds_signed k) (sym e) ∙ g.2 in
      signed_over_is ∙ rw (ne_eqb y 0 (λ z. ne_of_gt o (divisor_zero p z)), h) refl

-- ---- the statements
pub divides_once : DividesOnce
divides_once x y q r q' r' d d' =
    let f = divided_only x y q r d in
    let g = divided_only x y q' r' d' in
    (f.0 ∙ sym g.0, f.1 ∙ sym g.1)

pub signed_divides_once : SignedDividesOnce
signed_divides_once x y q r q' r' d d' =
    let f = signed_divided_only x y q r d in
    let g = signed_divided_only x y q' r' d' in
    (f.0 ∙ sym g.0, f.1 ∙ sym g.1)

pub div_is_exact : DivIsExact
div_is_exact = div_exact

pub divs_is_exact : DivsIsExact
divs_is_exact = divs_exact

pub div_fits : DivFits
div_fits k a b = (fits_in k a b, no_over k a b)

pub divs_fits : DivsFits
divs_fits k a b p = (signed_fits_in k a b p, signed_no_over k a b p)

pub div_keeps : DivKeeps
div_keeps k a b = (div_kept k a b, divs_kept k a b)
