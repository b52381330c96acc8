-- The ones of a number of several parts, and their parity.
use mathlib.Core.Path.{◌≡◌, refl, sym, ap, ap₂, ◌∙◌}
use mathlib.Core.Bool.{Bool, true, false, cond, beq}
use mathlib.Core.List.{List, [], ◌∷◌}
use lib.ListN.{get_or}
use Prim.Native.Nat.{ℕ, zero, suc, ◌+◌, ◌*◌, ◌/◌, ◌%◌, ◌^◌, ◌<◌}
use native.Mathlib.Nat.{zero-add, add-zero, suc-add, add-suc, add_assoc, add_comm, add-mod, mod-lt, div-one, zero-lt-suc, le_of_suc-le-suc, not-suc-le-zero}
use native.Mathlib.Numerals.{add-one, one-add}
use lib.Dec.{eqb}
use lib.Bits.{bit_and, bit_xor, xor_add_and, xor_shr}
use native.Mathlib.Omega.{arith}
use lib.Pow.{field, mod-mod-pow, shr-shr}
use Rattle.alu.specs.Parity.{ones_of, even_ones}
use Rattle.flags.proofs.Bools.{two_bits}

-- bits above the k low ones do not count
pub ones_low : (k x : ℕ) → ones_of k (x % 2 ^ k) ≡ ones_of k x
unfolding ones_of
ones_low zero x = refl
ones_low (suc k) x =
    ap₂ (λ (p q : ℕ). p + ones_of k q)
    (ap (λ (n : ℕ). x % 2 ^ n % 2) (sym (add-one k)) ∙ mod-mod-pow x k 1)
    (ap (λ (n : ℕ). x % 2 ^ n / 2) (sym (add-one k)) ∙ field x k 1)
    ∙ ap (λ (q : ℕ). x % 2 + q) (ones_low k (x / 2))

-- the k low bits, and the j above them
pub ones_cat : (k j x : ℕ) → ones_of (k + j) x ≡ ones_of k x + ones_of j (x / 2 ^ k)
unfolding ones_of
ones_cat zero j x =
    ap (λ (n : ℕ). ones_of n x) (zero-add j) ∙ ap (ones_of j) (sym (div-one x)) ∙ sym (zero-add (ones_of j (x / 1)))
ones_cat (suc k) j x =
    ap (λ (n : ℕ). ones_of n x) (suc-add k j)
    ∙ ap (λ (n : ℕ). x % 2 + n) (ones_cat k j (x / 2))
    ∙ sym (add_assoc (x % 2) (ones_of k (x / 2)) (ones_of j (x / 2 / 2 ^ k)))
    ∙ ap (λ (n : ℕ). x % 2 + ones_of k (x / 2) + ones_of j n) (shr-shr x 1 k ∙ ap (λ (n : ℕ). x / 2 ^ n) (one-add k))

even_bits : (p q : ℕ) → p < 2 → q < 2 → eqb ((p + q) % 2) 0 ≡ beq (eqb p 0) (eqb q 0)
even_bits = two_bits (λ (p q : ℕ). eqb ((p + q) % 2) 0 ≡ beq (eqb p 0) (eqb q 0)) refl refl refl refl

pub even_sum : (a b : ℕ) → eqb ((a + b) % 2) 0 ≡ beq (eqb (a % 2) 0) (eqb (b % 2) 0)
even_sum a b =
    ap (λ (n : ℕ). eqb n 0) (add-mod a b 2)
    ∙ even_bits (a % 2) (b % 2) (mod-lt a (zero-lt-suc 1)) (mod-lt b (zero-lt-suc 1))

pub even_low : (k x : ℕ) → even_ones k (x % 2 ^ k) ≡ even_ones k x
unfolding even_ones
even_low k x = ap (λ (n : ℕ). eqb (n % 2) 0) (ones_low k x)

pub even_cat : (k j x : ℕ) → even_ones (k + j) x ≡ beq (even_ones j (x / 2 ^ k)) (even_ones k x)
unfolding even_ones
even_cat k j x =
    ap (λ (n : ℕ). eqb (n % 2) 0) (ones_cat k j x ∙ add_comm (ones_of k x) (ones_of j (x / 2 ^ k)))
    ∙ even_sum (ones_of j (x / 2 ^ k)) (ones_of k x)

-- the lowest bit of a and b taken together
bit_xor_lem : (x n a b : ℕ) → x + n * 2 ≡ a + b → x % 2 ≡ (a % 2 + b % 2) % 2
bit_xor_lem x n a b e = omega arith

add_bits : (p r c d m n : ℕ) → p ≡ (c + d) % 2 → r % 2 ≡ (m + n) % 2 → (p + r) % 2 ≡ (c + m + (d + n)) % 2
add_bits p r c d m n e f = omega arith

-- the ones of a and b taken together: where both have a one there is none
ones_xor : (k a b : ℕ) → ones_of k (bit_xor a b) % 2 ≡ (ones_of k a + ones_of k b) % 2
unfolding ones_of
ones_xor zero a b = refl
ones_xor (suc k) a b =
    rw (xor_shr a b 1)
    (add_bits (bit_xor a b % 2) (ones_of k (bit_xor (a / 2) (b / 2))) (a % 2) (b % 2) (ones_of k (a / 2)) (ones_of k (b / 2))
    (bit_xor_lem (bit_xor a b) (bit_and a b) a b (xor_add_and a b))
    (ones_xor k (a / 2) (b / 2)))

pub even_xor : (k a b : ℕ) → even_ones k (bit_xor a b) ≡ beq (even_ones k a) (even_ones k b)
unfolding even_ones
even_xor k a b = ap (λ (n : ℕ). eqb n 0) (ones_xor k a b) ∙ even_sum (ones_of k a) (ones_of k b)

-- the ones of a number of two halves are even where those of the halves taken together are
pub even_halves : (k x : ℕ) → even_ones k (bit_xor (x / 2 ^ k) x % 2 ^ k) ≡ even_ones (k + k) x
even_halves k x = even_low k (bit_xor (x / 2 ^ k) x) ∙ even_xor k (x / 2 ^ k) x ∙ sym (even_cat k k x)

-- the values of f at n numbers from i on
abbrev values_from : (ℕ → ℕ) → ℕ → ℕ → List ℕ
values_from f i zero = []
values_from f i (suc n) = f i ∷ values_from f (suc i) n

value_at_lem : (f : ℕ → ℕ) (i n k : ℕ) → k < n → get_or (values_from f i n) k 0 ≡ f (i + k)
value_at_lem f i zero k h = absurd (not-suc-le-zero h)
value_at_lem f i (suc n) zero h = ap f (sym (add-zero i))
value_at_lem f i (suc n) (suc k) h = value_at_lem f (suc i) n k (le_of_suc-le-suc h) ∙ ap f (suc-add i k ∙ sym (add-suc i k))

-- the sign of a byte in the table: 49, which is '1', where its ones are even, and 48 where they are odd
abbrev sign_of : ℕ → ℕ
sign_of x = cond (even_ones 8 x) 49 48

sign_even : (b : Bool) → eqb (cond b 49 48) 49 ≡ b
sign_even true = refl
sign_even false = refl

-- the table's rule; where it is cited, antt computes the signs of all 256 bytes and holds them against the constant
pub even_entry : (x : ℕ) → x < 256 → eqb (get_or (values_from sign_of 0 256) x 0) 49 ≡ even_ones 8 x
even_entry x h =
    ap (λ (n : ℕ). eqb n 49) (value_at_lem sign_of 0 256 x h ∙ ap sign_of (zero-add x)) ∙ sign_even (even_ones 8 x)
