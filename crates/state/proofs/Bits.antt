-- The bits of a number, once over where they start and how many they are.
use Prim.Native.Nat.{ℕ, ◌+◌, ◌*◌, ◌/◌, ◌%◌, ◌^◌, ◌<◌}
use mathlib.Core.Path.{◌≡◌, refl, ap, sym, ◌∙◌, subst}
use native.Mathlib.Omega.{arith}
use native.Mathlib.Nat.{mod-lt, mod-mod, div-add-mod', div-one, div-eq_of_lt}
use lib.Pow.{pow_pos, pow-add, high, low, shr_lt, shr-shr, field, mod-mod-pow}
use lib.Arith.{digits_lt}
use Rattle.state.specs.Register.{get_bits, set_bits, start_of, width_of}
use Rattle.state.specs.declared.Part.{Part}
use Rattle.state.specs.declared.Part.TheVariants.{Byte0, Byte1, Byte2, Byte3, Half0, Half1, Whole}

pub get_lt : (o k x : ℕ) → get_bits o k x < 2 ^ k
unfolding get_bits
get_lt o k x = mod-lt (x / 2 ^ o) (pow_pos k)

-- what is written reads back
pub get_set : (o k x v : ℕ) → get_bits o k (set_bits o k x v) ≡ v % 2 ^ k
unfolding get_bits set_bits
get_set o k x v =
    rw (high (x / 2 ^ o / 2 ^ k * 2 ^ k + v % 2 ^ k) o (mod-lt x (pow_pos o)))
    (low (x / 2 ^ o / 2 ^ k) k (mod-lt v (pow_pos k)))

-- what lies below the part and above it stays
pub set_below : (o k x v : ℕ) → set_bits o k x v % 2 ^ o ≡ x % 2 ^ o
unfolding set_bits
set_below o k x v = low (x / 2 ^ o / 2 ^ k * 2 ^ k + v % 2 ^ k) o (mod-lt x (pow_pos o))

pub set_above : (o k x v : ℕ) → set_bits o k x v / 2 ^ o / 2 ^ k ≡ x / 2 ^ o / 2 ^ k
unfolding set_bits
set_above o k x v =
    rw (high (x / 2 ^ o / 2 ^ k * 2 ^ k + v % 2 ^ k) o (mod-lt x (pow_pos o)))
    (high (x / 2 ^ o / 2 ^ k) k (mod-lt v (pow_pos k)))

-- its three parts
set_is : (o k x v : ℕ) → set_bits o k x v ≡ (x / 2 ^ o / 2 ^ k * 2 ^ k + v % 2 ^ k) * 2 ^ o + x % 2 ^ o
unfolding set_bits
set_is o k x v = refl

-- of two writes the last one counts, and what is there may be written there
pub set_again : (o k x v w : ℕ) → set_bits o k (set_bits o k x v) w ≡ set_bits o k x w
set_again o k x v w = set_is o k (set_bits o k x v) w ∙ rw (set_above o k x v, set_below o k x v) (sym (set_is o k x w))

pub set_same : (o k x : ℕ) → set_bits o k x (get_bits o k x) ≡ x
unfolding set_bits get_bits
set_same o k x =
    rw (mod-mod (x / 2 ^ o) (2 ^ k), div-add-mod' (x / 2 ^ o) (2 ^ k)) (div-add-mod' x (2 ^ o))

-- a part that ends at or below the start of the one written, and one that starts at or above its end, keep their bits
pub get_below : (m o k p q x v : ℕ) → o ≡ m + (q + p) → get_bits p q (set_bits o k x v) ≡ get_bits p q x
unfolding get_bits
get_below m o k p q x v e = sym (only (set_bits o k x v)) ∙ ap (λ (y : ℕ). y % 2 ^ (q + p) / 2 ^ p) same ∙ only x
  where
    only : (y : ℕ) → y % 2 ^ o % 2 ^ (q + p) / 2 ^ p ≡ y / 2 ^ p % 2 ^ q
    only y = rw (e, mod-mod-pow y m (q + p)) (field y q p)

    same : set_bits o k x v % 2 ^ o ≡ x % 2 ^ o
    same = set_below o k x v

pub get_above : (m o k p q x v : ℕ) → p ≡ o + k + m → get_bits p q (set_bits o k x v) ≡ get_bits p q x
unfolding get_bits
get_above m o k p q x v e = ap (λ (y : ℕ). y % 2 ^ q) (deep (set_bits o k x v) ∙ ap (λ (y : ℕ). y / 2 ^ m) (set_above o k x v) ∙ sym (deep x))
  where
    deep : (y : ℕ) → y / 2 ^ p ≡ y / 2 ^ o / 2 ^ k / 2 ^ m
    deep y = rw (e, ← shr-shr y (o + k) m, ← shr-shr y o k)

-- within a number of j + k + o bits the result has as many
pub set_lt : (o k j x v : ℕ) → x < 2 ^ (j + k + o) → set_bits o k x v < 2 ^ (j + k + o)
unfolding set_bits
set_lt o k j x v h =
    let q : x / 2 ^ o < 2 ^ (j + k) = shr_lt (j + k) o h in
    let r : x / 2 ^ o / 2 ^ k < 2 ^ j = shr_lt j k q in
    rw (pow-add 2 (j + k) o, pow-add 2 j k)
    (digits_lt (digits_lt r (mod-lt v (pow_pos k))) (mod-lt x (pow_pos o)))

-- every part lies within the 32 bits of a long
pub part_fits : (p : Part) → (j : ℕ) × (j + width_of p + start_of p ≡ 32)
part_fits Byte0 = (24, refl)
part_fits Byte1 = (16, refl)
part_fits Byte2 = (8, refl)
part_fits Byte3 = (0, refl)
part_fits Half0 = (16, refl)
part_fits Half1 = (0, refl)
part_fits Whole = (0, refl)

pub set_part_lt : (p : Part) (x v : ℕ) → x < 2 ^ 32 → set_bits (start_of p) (width_of p) x v < 2 ^ 32
set_part_lt p x v h =
    let e = (part_fits p).1 in
    subst (λ (n : ℕ). set_bits (start_of p) (width_of p) x v < 2 ^ n) e
    (set_lt (start_of p) (width_of p) (part_fits p).0 x v (subst (λ (n : ℕ). x < 2 ^ n) (sym e) h))

-- ---- the forms that the code computes: a part at the bottom, a part at the top, the whole
pub get_bottom : (k x : ℕ) → get_bits 0 k x ≡ x % 2 ^ k
unfolding get_bits
get_bottom k x = rw (div-one x)

pub get_whole : (x : ℕ) → x < 2 ^ 32 → get_bits 0 32 x ≡ x
get_whole x h = get_bottom 32 x ∙ omega arith

pub set_bottom : (k x v : ℕ) → set_bits 0 k x v ≡ x / 2 ^ k * 2 ^ k + v % 2 ^ k
unfolding set_bits
set_bottom k x v = let z : x % 1 ≡ 0 = omega arith in rw (div-one x, z) (omega arith)

pub set_top : (o k x v : ℕ) → x < 2 ^ (k + o) → set_bits o k x v ≡ v % 2 ^ k * 2 ^ o + x % 2 ^ o
unfolding set_bits
set_top o k x v h =
    let q : x / 2 ^ o < 2 ^ k = shr_lt k o h in
    let z : x / 2 ^ o / 2 ^ k ≡ 0 = div-eq_of_lt q in
    rw z (omega arith)

pub set_whole : (x v : ℕ) → x < 2 ^ 32 → v < 2 ^ 32 → set_bits 0 32 x v ≡ v
set_whole x v h k = set_bottom 32 x v ∙ omega arith
