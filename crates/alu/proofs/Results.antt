-- S and Z are those of the value; what INC and DEC keep; Z after a comparison says that the operands are equal.
use mathlib.Core.Path.{◌≡◌, refl, sym, ap, ◌∙◌}
use mathlib.Core.Bool.{Bool, false, true, cond}
use Prim.Native.Nat.{ℕ, ◌+◌, ◌*◌, ◌%◌, ◌^◌, ◌≤◌, ◌<◌}
use native.Mathlib.Nat.{mod-lt, lt_of_not-le}
use native.Mathlib.Decide.{dec_le}
use native.Mathlib.Omega.{arith}
use lib.Dec.{eqb, ltb}
use lib.Pow.{pow_pos}
use borrow.Author.Tests.{eq-eqb, ne_eqb, lt-ltb, le-ltb}
use Rattle.alu.specs.declared.Arith.{Arith}
use Rattle.alu.specs.declared.Arith.TheVariants.{Add, Adc, Sub, Sbc, And, Xor, Or, Cp}
use Rattle.alu.specs.declared.Shift.{Shift}
use Rattle.flags.specs.declared.Computed.{Computed}
use Rattle.flags.specs.Width.{low, negative, one}
use Rattle.flags.specs.Sums.{result_of, sum_of, difference_of}
use Rattle.flags.specs.Undefined.{by_parity, undefined_of}
use Rattle.alu.specs.inner.Parity.{parity_of}
use Rattle.alu.specs.Logic.{plain, and_of, or_of, xor_of}
use Rattle.alu.specs.Operation.{operated}
use Rattle.alu.specs.Shift.{shift_of}
use Rattle.flags.specs.declared.Flags.{Flags}
use Rattle.flags.specs.Flag.{keeping_c}
use Rattle.alu.specs.Count.{counted_of, inc_of, dec_of}
use Rattle.flags.proofs.Meaning.{difference_is_exact}
use Rattle.flags.proofs.Undefined.{parity_defines_h}

-- Z is 1 exactly where the value is 0, and S is the value's top bit
pub record Judged (k : ℕ) (r : Computed) : Type 0 where
  pub zero : r.flags.z ≡ eqb r.value 0
  pub sign : r.flags.s ≡ negative k r.value

judged : (k r : ℕ) (h v n c : Bool) (m : ℕ) → Judged k (result_of k r h v n c m)
unfolding result_of
judged k r h v n c m = record { zero = refl; sign = refl }

-- the parts that the code hands on make a result with parity
pub plain_made :
    (k r m : ℕ) (h v c : Bool) → v ≡ parity_of k r → m ≡ undefined_of (by_parity k) → result_of k r h v false c m ≡ plain k r h c
unfolding plain parity_of
plain_made k r m h v c e f = rw (e, f) (ap (λ (b : Bool). result_of k r b (parity_of k r) false c (undefined_of (by_parity k))) (sym (parity_defines_h k h)))

-- the eight operations
pub operated_judged : (op : Arith) (k a b : ℕ) (c : Bool) → Judged k (operated op k a b c)
unfolding operated sum_of difference_of plain and_of or_of xor_of
operated_judged Add k a b c = judged k _ _ _ _ _ _
operated_judged Adc k a b c = judged k _ _ _ _ _ _
operated_judged Sub k a b c = judged k _ _ _ _ _ _
operated_judged Sbc k a b c = judged k _ _ _ _ _ _
operated_judged And k a b c = judged k _ _ _ _ _ _
operated_judged Xor k a b c = judged k _ _ _ _ _ _
operated_judged Or k a b c = judged k _ _ _ _ _ _
operated_judged Cp k a b c = judged k _ _ _ _ _ _

-- the shifts
pub shift_judged : (w : Shift) (k a n : ℕ) → Judged k (shift_of w k a n)
unfolding shift_of
shift_judged w k a n = judged k _ _ _ _ _ _

-- ---- INC and DEC keep C, and at another width than a byte all flags
counted_carry : (old : Flags) (k : ℕ) (r : Computed) → (counted_of old k r).flags.c ≡ old.c
counted_carry old k r = go (eqb k 8)
  where
    go : (b : Bool) → (cond b (keeping_c old r.flags) old).c ≡ old.c
    go true = refl
    go false = refl

pub inc_carry : (old : Flags) (k a n : ℕ) → (inc_of old k a n).flags.c ≡ old.c
unfolding inc_of
inc_carry old k a n = counted_carry old k (sum_of k a n false)

pub dec_carry : (old : Flags) (k a n : ℕ) → (dec_of old k a n).flags.c ≡ old.c
unfolding dec_of
dec_carry old k a n = counted_carry old k (difference_of k a n false)

pub inc_keeps : (old : Flags) (k a n : ℕ) → eqb k 8 ≡ false → (inc_of old k a n).flags ≡ old
unfolding inc_of
inc_keeps old k a n e = rw e

pub dec_keeps : (old : Flags) (k a n : ℕ) → eqb k 8 ≡ false → (dec_of old k a n).flags ≡ old
unfolding dec_of
dec_keeps old k a n e = rw e

-- ---- comparisons: v is x - y of numbers below m, with m borrowed where x is below y
same :
    (m v x y : ℕ) → y < m → v + y + 0 ≡ x + m * one (ltb x (y + 0)) → Dec (x ≤ y) → Dec (y ≤ x) →
    eqb v 0 ≡ eqb x y
same m v x y h e (yes p) (yes q) =
    let f = rw (le-ltb x (y + 0) (omega arith)) at e in
    rw (eq-eqb v 0 (omega arith), eq-eqb x y (omega arith))
same m v x y h e (no p) (yes q) =
    let l : y < x = lt_of_not-le p in
    let f = rw (le-ltb x (y + 0) (omega arith)) at e in
    rw (ne_eqb v 0 (λ z. omega arith), ne_eqb x y (λ z. omega arith))
same m v x y h e d (no q) =
    let l : x < y = lt_of_not-le q in
    let f = rw (lt-ltb x (y + 0) (omega arith)) at e in
    rw (ne_eqb v 0 (λ z. omega arith), ne_eqb x y (λ z. omega arith))

pub exact :
    (k a b : ℕ) →
    (difference_of k a b false).value + low k b + 0 ≡ low k a + 2 ^ k * one (ltb (low k a) (low k b + 0))
unfolding difference_of result_of
exact k a b = difference_is_exact k a b false

-- Z of CP is 1 exactly where the operands' low k bits are the same
pub compared_same : (k a b : ℕ) (c : Bool) → (operated Cp k a b c).flags.z ≡ eqb (a % 2 ^ k) (b % 2 ^ k)
unfolding operated
compared_same k a b c =
    (operated_judged Cp k a b c).zero
    ∙ same (2 ^ k) (difference_of k a b false).value (low k a) (low k b) (mod-lt b (pow_pos k)) (exact k a b) (dec_le (low k a) (low k b)) (dec_le (low k b) (low k a))
