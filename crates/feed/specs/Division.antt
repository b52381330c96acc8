-- What products and quotients are, for every width of k bits, and what they leave of the flags. Each statement is proved in
-- proofs/Products.antt, proofs/Quotients.antt or proofs/Fits.antt.
use Rattle.std.specs.Prelude.{ℕ, ◌+◌, ◌*◌, ◌/◌, ◌^◌, ◌<◌, ◌≡◌, ◌↔◌, ◌⊎◌, Bool, true, false}
use Rattle.std.specs.Prelude.{ℤ, pos, nat_abs, ◌+ℤ◌, ◌*ℤ◌}
use Rattle.std.specs.Int.Signed.{non_neg}
use Rattle.flags.specs.{declared.Flags.Flags, Width.low, Undefined.marks_h, Undefined.marks_v}
use Rattle.feed.specs.declared.scale.Divided.{Divided}
use Rattle.feed.specs.declared.scale.Scale.TheVariants.{Mul, Muls, Div, Divs}
use Rattle.feed.specs.Scale.{signed, holds_signed, mul_of, muls_of, div_of, divs_of, scaled}

-- 2 k bits hold every result: of a product nothing is lost
abbrev pub ResultsFit : Type 0
ResultsFit =
    (k a b : ℕ) → (mul_of k a b < 2 ^ (2 * k)) × (muls_of k a b < 2 ^ (2 * k)) × ((div_of k a b).value < 2 ^ (2 * k)) × ((divs_of k a b).value < 2 ^ (2 * k))

-- and of numbers with a sign, they stand for the product itself
abbrev pub SignedProductIsExact : Type 0
SignedProductIsExact = (k a b : ℕ) → 0 < k → signed (2 * k) (muls_of k a b) ≡ signed k (low k a) *ℤ signed k (low k b)

-- a division: x = q y + r, and r is smaller than the divisor
pub record Divides (x y q r : ℕ) : Type 0 where
  pub exact : x ≡ q * y + r
  pub smaller : r < y

-- with a sign: r is smaller than the divisor without their signs, and is 0 or has the dividend's sign
pub record SignedDivides (x y q r : ℤ) : Type 0 where
  pub exact : x ≡ q *ℤ y +ℤ r
  pub smaller : nat_abs r < nat_abs y
  pub sign : (r ≡ pos 0) ⊎ (non_neg r ≡ non_neg x)

-- these determine the quotient and the remainder
abbrev pub DividesOnce : Type 0
DividesOnce = (x y q r q' r' : ℕ) → Divides x y q r → Divides x y q' r' → (q ≡ q') × (r ≡ r')

abbrev pub SignedDividesOnce : Type 0
SignedDividesOnce = (x y q r q' r' : ℤ) → SignedDivides x y q r → SignedDivides x y q' r' → (q ≡ q') × (r ≡ r')

-- the lower and the upper half of a result
abbrev pub quotient_in : ℕ → Divided → ℕ
quotient_in k d = low k d.value

abbrev pub remainder_in : ℕ → Divided → ℕ
remainder_in k d = d.value / 2 ^ k

-- where V is 0, they are the quotient and the remainder
abbrev pub DivIsExact : Type 0
DivIsExact =
    (k a b : ℕ) → (div_of k a b).over ≡ false →
    Divides (low (2 * k) a) (low k b) (quotient_in k (div_of k a b)) (remainder_in k (div_of k a b))

abbrev pub DivsIsExact : Type 0
DivsIsExact =
    (k a b : ℕ) → 0 < k → (divs_of k a b).over ≡ false →
    SignedDivides (signed (2 * k) (low (2 * k) a)) (signed k (low k b)) (signed k (quotient_in k (divs_of k a b))) (signed k (remainder_in k (divs_of k a b)))

-- V is 0 exactly where there is a quotient that k bits hold
abbrev pub DivFits : Type 0
DivFits = (k a b : ℕ) → ((div_of k a b).over ≡ false) ↔ ((q : ℕ) × (r : ℕ) × (q < 2 ^ k) × Divides (low (2 * k) a) (low k b) q r)

abbrev pub DivsFits : Type 0
DivsFits =
    (k a b : ℕ) → 0 < k →
    ((divs_of k a b).over ≡ false) ↔ ((q : ℤ) × (r : ℤ) × (holds_signed k q ≡ true) × SignedDivides (signed (2 * k) (low (2 * k) a)) (signed k (low k b)) q r)

-- where V is 1, the operand is as it was
abbrev pub DivKeeps : Type 0
DivKeeps = (k a b : ℕ) → ((div_of k a b).over ≡ true → (div_of k a b).value ≡ low (2 * k) a) × ((divs_of k a b).over ≡ true → (divs_of k a b).value ≡ low (2 * k) a)

-- MUL and MULS keep all flags and marks
abbrev pub ProductsKeepFlags : Type 0
ProductsKeepFlags = (k a b : ℕ) (old : Flags) → ((scaled Mul k a b old).flags ≡ old) × ((scaled Muls k a b old).flags ≡ old)

-- of DIV and DIVS V says whether there is no quotient, and its mark goes; no other flag is touched, nor the mark of H
pub record VTells (old f : Flags) (over : Bool) : Type 0 where
  pub v : f.v ≡ over
  pub known : marks_v f.marks ≡ false
  pub h : f.h ≡ old.h
  pub mark : marks_h f.marks ≡ marks_h old.marks
  pub s : f.s ≡ old.s
  pub z : f.z ≡ old.z
  pub n : f.n ≡ old.n
  pub c : f.c ≡ old.c

abbrev pub DivTells : Type 0
DivTells =
    (k a b : ℕ) (old : Flags) →
    VTells old (scaled Div k a b old).flags (div_of k a b).over × VTells old (scaled Divs k a b old).flags (divs_of k a b).over
