-- Truth values that a test finds equal, both parts of an and, a test that passes at each number below n, and laws of bits.
use mathlib.Core.Path.{◌≡◌, refl, sym, subst}
use mathlib.Core.Bool.{Bool, true, false, beq, ◌&&◌}
use mathlib.Core.Logic.{⊎_elim}
use Prim.Native.Nat.{ℕ, zero, suc, ◌<◌}
use native.Mathlib.Nat.{not-suc-le-zero, le_of_suc-le-suc, eq-or-lt_of_le}
use lib.Dec.{T}

pub beq_eq : (a b : Bool) → T (beq a b) → a ≡ b
beq_eq true true t = refl
beq_eq true false t = absurd t
beq_eq false true t = absurd t
beq_eq false false t = refl

pub left : (a b : Bool) → T (a && b) → T a
left true b t = tt
left false b t = t

pub right : (a b : Bool) → T (a && b) → T b
right true b t = t
right false b t = absurd t

pub and_true : (a : Bool) → (a && true) ≡ a
and_true true = refl
and_true false = refl

pub and-false : (a : Bool) → (a && false) ≡ false
and-false true = refl
and-false false = refl

-- a test of numbers that passes at all of n numbers passes at each below n
abbrev pub upto : (ℕ → Bool) → ℕ → Bool
upto p zero = true
upto p (suc n) = p n && upto p n

pub below : (p : ℕ → Bool) (n : ℕ) → T (upto p n) → (x : ℕ) → x < n → T (p x)
below p zero t x h = absurd (not-suc-le-zero h)
below p (suc n) t x h =
    ⊎_elim (λ e. subst (λ (m : ℕ). T (p m)) (sym e) (left (p n) (upto p n) t))
    (λ l. below p n (right (p n) (upto p n) t) x l)
    (eq-or-lt_of_le (le_of_suc-le-suc h))

-- ---- a law of one bit, of two or of three holds where it holds of 0 and 1
one_bit : (P : ℕ → Type 0) → P 0 → P 1 → (n : ℕ) → n < 2 → P n
one_bit P p q zero h = p
one_bit P p q (suc zero) h = q
one_bit P p q (suc (suc n)) h = absurd (not-suc-le-zero (le_of_suc-le-suc (le_of_suc-le-suc h)))

pub two_bits : (P : ℕ → ℕ → Type 0) → P 0 0 → P 0 1 → P 1 0 → P 1 1 → (x y : ℕ) → x < 2 → y < 2 → P x y
two_bits P p q s t x y hx hy = one_bit (λ (x : ℕ). P x y) (one_bit (P 0) p q y hy) (one_bit (P 1) s t y hy) x hx

pub three_bits :
    (P : ℕ → ℕ → ℕ → Type 0)
    → P 0 0 0 → P 0 0 1 → P 0 1 0 → P 0 1 1 → P 1 0 0 → P 1 0 1 → P 1 1 0 → P 1 1 1
    → (x y r : ℕ) → x < 2 → y < 2 → r < 2 → P x y r
three_bits P p q s t u v w z x y r hx hy hr =
    one_bit (λ (x : ℕ). P x y r) (two_bits (P 0) p q s t y r hy hr) (two_bits (P 1) u v w z y r hy hr) x hx
