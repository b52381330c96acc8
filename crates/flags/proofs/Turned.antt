-- V by the top bits of two operands and of their result.
use mathlib.Core.Path.{◌≡◌, refl, sym, ap, ap₂, ◌∙◌}
use mathlib.Core.Bool.{Bool, true, false, not}
use Prim.Native.Nat.{ℕ, ◌/◌, ◌^◌, ◌<◌}
use native.Mathlib.Omega.{arith}
use lib.Dec.{leb}
use lib.Bits.{bit_and, bit_xor, and_shr, xor_shr}
use lib.Pow.{shr_lt}
use borrow.Author.Tests.{le-leb, lt-leb, leb-true, leb-false}
use Rattle.flags.specs.Width.{negative}
use Rattle.flags.specs.Sums.{turned}
use Rattle.flags.proofs.Bools.{three_bits}

top_bit : (z : ℕ) → leb 2147483648 z ≡ leb 1 (z / 2 ^ 31)
top_bit z = go (leb 1 (z / 2 ^ 31)) refl
  where
    go : (b : Bool) → leb 1 (z / 2 ^ 31) ≡ b → leb 2147483648 z ≡ b
    go true e = let l = leb-true 1 (z / 2 ^ 31) e in le-leb 2147483648 z (omega arith)
    go false e = let l = leb-false 1 (z / 2 ^ 31) e in lt-leb 2147483648 z (omega arith)

signs_sum : (x y r : ℕ) → x < 2 → y < 2 → r < 2 → leb 1 (bit_and (bit_xor x r) (bit_xor y r)) ≡ turned (leb 1 x) (leb 1 y) (leb 1 r)
signs_sum =
    three_bits (λ (x y r : ℕ). leb 1 (bit_and (bit_xor x r) (bit_xor y r)) ≡ turned (leb 1 x) (leb 1 y) (leb 1 r))
    refl refl refl refl refl refl refl refl

signs_less : (x y r : ℕ) → x < 2 → y < 2 → r < 2 → leb 1 (bit_and (bit_xor x r) (bit_xor x y)) ≡ turned (leb 1 x) (not (leb 1 y)) (leb 1 r)
signs_less =
    three_bits (λ (x y r : ℕ). leb 1 (bit_and (bit_xor x r) (bit_xor x y)) ≡ turned (leb 1 x) (not (leb 1 y)) (leb 1 r))
    refl refl refl refl refl refl refl refl

module _ (x y r : ℕ) (hx : x < 4294967296) (hy : y < 4294967296) (hr : r < 4294967296) where
  pub turned_sum : leb 2147483648 (bit_and (bit_xor x r) (bit_xor y r)) ≡ turned (negative 32 x) (negative 32 y) (negative 32 r)
  turned_sum =
      top_bit (bit_and (bit_xor x r) (bit_xor y r))
      ∙ ap (leb 1) (and_shr (bit_xor x r) (bit_xor y r) 31 ∙ ap₂ bit_and (xor_shr x r 31) (xor_shr y r 31))
      ∙ signs_sum (x / 2 ^ 31) (y / 2 ^ 31) (r / 2 ^ 31) (shr_lt 1 31 hx) (shr_lt 1 31 hy) (shr_lt 1 31 hr)
      ∙ ap₂ (λ (p q : Bool). turned p q (leb 1 (r / 2 ^ 31))) (sym (top_bit x)) (sym (top_bit y))
      ∙ ap (turned (leb 2147483648 x) (leb 2147483648 y)) (sym (top_bit r))

  pub turned_less : leb 2147483648 (bit_and (bit_xor x r) (bit_xor x y)) ≡ turned (negative 32 x) (not (negative 32 y)) (negative 32 r)
  turned_less =
      top_bit (bit_and (bit_xor x r) (bit_xor x y))
      ∙ ap (leb 1) (and_shr (bit_xor x r) (bit_xor x y) 31 ∙ ap₂ bit_and (xor_shr x r 31) (xor_shr x y 31))
      ∙ signs_less (x / 2 ^ 31) (y / 2 ^ 31) (r / 2 ^ 31) (shr_lt 1 31 hx) (shr_lt 1 31 hy) (shr_lt 1 31 hr)
      ∙ ap₂ (λ (p q : Bool). turned p (not q) (leb 1 (r / 2 ^ 31))) (sym (top_bit x)) (sym (top_bit y))
      ∙ ap (turned (leb 2147483648 x) (not (leb 2147483648 y))) (sym (top_bit r))
