-- Twice the bits hold every result, and a product exactly (specs/Division.antt).
use mathlib.Core.Path.{◌≡◌, refl}
use mathlib.Core.Bool.{Bool, true, false, cond, not, ◌||◌}
use Prim.Native.Nat.{ℕ, ◌+◌, ◌*◌, ◌/◌, ◌%◌, ◌^◌, ◌<◌}
use native.Mathlib.Nat.{mod-lt, le_of_lt, mul-le-mul_left, mul-lt-mul_of_pos_right}
use native.Mathlib.Omega.{arith}
use lib.Arith.{digits_lt}
use lib.Dec.{eqb, leb}
use borrow.Author.Tests.{eqb-false, leb-false}
use lib.IntN.{ℤ, pos, negsuc, ◌*ℤ◌}
use lib.Signed.{quot_z, rem_z}
use lib.Pow.{pow_pos, pow-add}
use Rattle.flags.specs.Width.{low}
use Rattle.feed.specs.Scale.{signed, bits_for, holds_signed, halves_of, kept_as, mul_of, muls_of, div_of, divs_of}
use Rattle.feed.specs.Division.{ResultsFit, SignedProductIsExact}
use Rattle.feed.proofs.Signs.{turned_in, size_in, product_is, small_holds, returned}
use Rattle.feed.proofs.Results.{size_product_lt}

product_fits : (k a b : ℕ) → mul_of k a b < 2 ^ (2 * k)
unfolding mul_of
product_fits k a b =
    let hx : low k a < 2 ^ k = mod-lt a (pow_pos k) in
    let hy : low k b < 2 ^ k = mod-lt b (pow_pos k) in
    let l = mul-le-mul_left (low k a) (le_of_lt hy) in
    let m = mul-lt-mul_of_pos_right hx (pow_pos k) in
    let e : 2 * k ≡ k + k = omega arith in
    rw e (omega (arith, pow-add 2 k k))

pub signed_product_is_exact : SignedProductIsExact
unfolding muls_of
signed_product_is_exact k a b p =
    let x = low k a in
    let y = low k b in
    let q : 0 < 2 * k = omega arith in
    let h = small_holds (2 * k) (turned_in k k x y) (size_in k x * size_in k y) (product_is k x y p) (size_product_lt k x y p) in
    returned (2 * k) (signed k x *ℤ signed k y) q h

-- ---- every result fits
bits_fit : (k : ℕ) (z : ℤ) → bits_for k z < 2 ^ k
bits_fit k (pos n) = mod-lt n (pow_pos k)
bits_fit k (negsuc n) = let h : n % 2 ^ k < 2 ^ k = mod-lt n (pow_pos k) in omega arith

-- two halves of k bits
halves_fit : (k q r : ℕ) → q < 2 ^ k → r < 2 ^ k → r * 2 ^ k + q < 2 ^ (2 * k)
halves_fit k q r h g = let e : 2 * k ≡ k + k = omega arith in rw (e, pow-add 2 k k) (digits_lt g h)

div_fits_bits : (k a b : ℕ) → (div_of k a b).value < 2 ^ (2 * k)
unfolding div_of
div_fits_bits k a b = go (eqb (low k b) 0) (leb (2 ^ k) (low (2 * k) a / low k b)) refl refl
  where
    go : (s t : Bool) → eqb (low k b) 0 ≡ s → leb (2 ^ k) (low (2 * k) a / low k b) ≡ t →
        (cond (s || t) (kept_as (low (2 * k) a)) (halves_of k (low (2 * k) a / low k b) (low (2 * k) a % low k b))).value < 2 ^ (2 * k)
    go true t e f = mod-lt a (pow_pos (2 * k))
    go false true e f = mod-lt a (pow_pos (2 * k))
    go false false e f =
        let y : low k b < 2 ^ k = mod-lt b (pow_pos k) in
        let d : low k b ≡ 0 → ⊥ = eqb-false (low k b) 0 e in
        let m : low (2 * k) a % low k b < low k b = mod-lt (low (2 * k) a) (omega arith) in
        halves_fit k _ _ (leb-false (2 ^ k) _ f) (omega arith)

-- whichever is chosen
either_fits : (k x q r : ℕ) (b : Bool) → x < 2 ^ (2 * k) → q < 2 ^ k → r < 2 ^ k → (cond b (kept_as x) (halves_of k q r)).value < 2 ^ (2 * k)
either_fits k x q r true h g f = h
either_fits k x q r false h g f = halves_fit k q r g f

divs_fits_bits : (k a b : ℕ) → (divs_of k a b).value < 2 ^ (2 * k)
unfolding divs_of
divs_fits_bits k a b =
    let q = quot_z (signed (2 * k) (low (2 * k) a)) (signed k (low k b)) in
    let r = rem_z (signed (2 * k) (low (2 * k) a)) (signed k (low k b)) in
    either_fits k (low (2 * k) a) (bits_for k q) (bits_for k r) (eqb (low k b) 0 || not (holds_signed k q)) (mod-lt a (pow_pos (2 * k))) (bits_fit k q) (bits_fit k r)

pub results_fit : ResultsFit
unfolding muls_of
results_fit k a b = (product_fits k a b, bits_fit (2 * k) (signed k (low k a) *ℤ signed k (low k b)), div_fits_bits k a b, divs_fits_bits k a b)
