-- Laws of the parts of the registers by where they begin: the place of a code, and bits that are put by turning over what differs.
use Prim.Native.Nat.{ℕ, zero, suc, ◌+◌, ◌-◌, ◌*◌, ◌/◌, ◌%◌, ◌^◌, ◌<◌, ◌≤◌}
use mathlib.Core.Path.{◌≡◌, refl, sym, ap, ap₂, ◌∙◌}
use mathlib.Core.Bool.{Bool, true, false, cond}
use native.Mathlib.Omega.{arith}
use native.Mathlib.Nat.{mod-lt, mod-eq_of_lt, add-zero}
use native.Mathlib.Numerals.{add-one}
use lib.Dec.{ltb}
use lib.Bits.{bit_and, bit_xor, and_mask, xor_shr, xor_mod, xor_block, xor_zero_r, xor_lt}
use lib.Pow.{pow_pos, split, shr_lt}
use borrow.Author.Tests.{ltb-true, ltb-false}
use Rattle.little.specs.declared.Size.{Size}
use Rattle.little.specs.declared.Size.TheVariants.{Byte, Word, Long}
use Rattle.little.specs.Width.{bits_of}
use Rattle.state.specs.declared.named.Field.{Field}
use Rattle.state.specs.Register.{set_bits, index_of}
use Rattle.state.specs.Named.{sixteen_of, byte_named}
use Rattle.state.specs.inner.Field.{field_at, put_in}
use Rattle.state.proofs.Bits.{set_lt}

-- ---- where a code begins
field_is : (i p n : ℕ) → i ≡ n / 4 → p ≡ 8 * (n % 4) → ◌≡◌ {A = Field} (record { index = i; start = p }) (field_at n)
field_is i p n e f = rw (e, f) refl

pub code_field : (b c k : ℕ) → k ≡ sixteen_of b (c / 16) → ◌≡◌ {A = Field} (record { index = 4 * k + c % 16 / 4; start = 8 * (c % 4) }) (field_at (byte_named b c))
unfolding byte_named
code_field b c k e = rw (← e) (field_is _ _ (16 * k + c % 16) (omega arith) (omega arith))

-- E0 to EF are the current bank's, F0 to FF the last sixteen
pub byte_current : (b n : ℕ) → n < 16 → byte_named b (0xE0 + n) ≡ 16 * b + n
unfolding byte_named
byte_current b n h =
    let e : (0xE0 + n) / 16 ≡ 14 = omega arith in
    let f : (0xE0 + n) % 16 ≡ n = omega arith in
    rw (e, f) refl

pub byte_shared : (b n : ℕ) → 16 ≤ n → n < 32 → byte_named b (0xE0 + n) ≡ 48 + n
unfolding byte_named
byte_shared b n l h =
    let e : (0xE0 + n) / 16 ≡ 15 = omega arith in
    let f : (0xE0 + n) % 16 ≡ n - 16 = omega arith in
    rw (e, f) (omega arith)

pub byte_field : (b r : ℕ) → r < 8 → ◌≡◌ {A = Field} (record { index = 4 * b + r / 2; start = 8 - 8 * (r % 2) }) (field_at (byte_named b (0xE0 + 4 * (r / 2) + (1 - r % 2))))
byte_field b r h =
    let e : 0xE0 + 4 * (r / 2) + (1 - r % 2) ≡ 0xE0 + (4 * (r / 2) + (1 - r % 2)) = omega arith in
    rw (e, byte_current b (4 * (r / 2) + (1 - r % 2)) (omega arith))
    (field_is _ _ (16 * b + (4 * (r / 2) + (1 - r % 2))) (omega arith) (omega arith))

pub long_field : (b r : ℕ) → r < 8 → ◌≡◌ {A = Field} (record { index = index_of b r; start = 0 }) (field_at (byte_named b (0xE0 + 4 * r)))
long_field b r h = go (ltb r 4) refl
  where
    go : (t : Bool) → ltb r 4 ≡ t → ◌≡◌ {A = Field} (record { index = cond t (4 * b + r) (12 + r); start = 0 }) (field_at (byte_named b (0xE0 + 4 * r)))
    go true e =
        let l = ltb-true r 4 e in
        rw (byte_current b (4 * r) (omega arith)) (field_is _ _ (16 * b + 4 * r) (omega arith) (omega arith))
    go false e =
        let l = ltb-false r 4 e in
        rw (byte_shared b (4 * r) (omega arith) (omega arith)) (field_is _ _ (48 + 4 * r) (omega arith) (omega arith))

-- ---- what is turned over twice is as it was
bit_back : (i j : ℕ) → i < 2 → j < 2 → bit_xor i (bit_xor i j) ≡ j
bit_back zero zero h k = refl
bit_back zero (suc zero) h k = refl
bit_back zero (suc (suc j)) h k = omega arith
bit_back (suc zero) zero h k = refl
bit_back (suc zero) (suc zero) h k = refl
bit_back (suc zero) (suc (suc j)) h k = omega arith
bit_back (suc (suc i)) j h k = omega arith

xor_back : (k a b : ℕ) → a < 2 ^ k → b < 2 ^ k → bit_xor a (bit_xor a b) ≡ b
xor_back zero a b h l =
    let p : a ≡ 0 = omega arith in
    let q : b ≡ 0 = omega arith in
    rw (p, q) refl
xor_back (suc k) a b h l =
    let c = bit_xor a b in
    let up : bit_xor a c / 2 ^ 1 ≡ b / 2 ^ 1 = xor_shr a c 1 ∙ rw (xor_shr a b 1) (xor_back k (a / 2 ^ 1) (b / 2 ^ 1) (shr_lt k 1 (rw add-one h)) (shr_lt k 1 (rw add-one l))) in
    let down : bit_xor a c % 2 ^ 1 ≡ b % 2 ^ 1 = xor_mod a c 1 ∙ rw (xor_mod a b 1) (bit_back (a % 2 ^ 1) (b % 2 ^ 1) (mod-lt a (pow_pos 1)) (mod-lt b (pow_pos 1))) in
    sym (split (bit_xor a c) 1) ∙ ap₂ (λ (x y : ℕ). x * 2 ^ 1 + y) up down ∙ split b 1

-- bits put by turning over those that differ
module _ (p k x v : ℕ) where
  differ : bit_and (bit_xor (x / 2 ^ p) v) (2 ^ k - 1) ≡ bit_xor (x / 2 ^ p % 2 ^ k) (v % 2 ^ k)
  differ = and_mask (bit_xor (x / 2 ^ p) v) k ∙ xor_mod (x / 2 ^ p) v k

  turned : (t : ℕ) → t ≡ bit_xor (x / 2 ^ p % 2 ^ k) (v % 2 ^ k) → bit_xor (x / 2 ^ p) t ≡ x / 2 ^ p / 2 ^ k * 2 ^ k + v % 2 ^ k
  turned t e =
      let y = x / 2 ^ p in
      let l = mod-lt y (pow_pos k) in
      let w = mod-lt v (pow_pos k) in
      let below : t ≡ 0 * 2 ^ k + t = omega arith in
      let small : t < 2 ^ k = rw e (xor_lt k (y % 2 ^ k) (v % 2 ^ k) l w) in
      ap₂ bit_xor (sym (split y k)) below
      ∙ xor_block k (y / 2 ^ k) 0 (y % 2 ^ k) t l small
      ∙ ap₂ (λ (m n : ℕ). m * 2 ^ k + n) (xor_zero_r (y / 2 ^ k)) (ap (bit_xor (y % 2 ^ k)) e ∙ xor_back k (y % 2 ^ k) (v % 2 ^ k) l w)

  pub put_turned : bit_xor x (bit_and (bit_xor (x / 2 ^ p) v) (2 ^ k - 1) * 2 ^ p) ≡ set_bits p k x v
  unfolding set_bits
  put_turned =
      let t = bit_and (bit_xor (x / 2 ^ p) v) (2 ^ k - 1) in
      ap₂ bit_xor (sym (split x p)) (sym (add-zero (t * 2 ^ p)))
      ∙ xor_block p (x / 2 ^ p) t (x % 2 ^ p) 0 (mod-lt x (pow_pos p)) (pow_pos p)
      ∙ ap₂ (λ (m n : ℕ). m * 2 ^ p + n) (turned t differ) (xor_zero_r (x % 2 ^ p))

  pub put_within : x < 2 ^ 32 → bit_xor x (bit_and (bit_xor (x / 2 ^ p) v) (2 ^ k - 1) * 2 ^ p % 2 ^ 32) ≡ set_bits p k x v % 2 ^ 32
  put_within h =
      let t = bit_and (bit_xor (x / 2 ^ p) v) (2 ^ k - 1) * 2 ^ p in
      let e : x % 2 ^ 32 ≡ x = omega arith in
      ap (λ (n : ℕ). bit_xor n (t % 2 ^ 32)) (sym e) ∙ sym (xor_mod x t 32) ∙ ap (λ (n : ℕ). n % 2 ^ 32) put_turned

-- what lies within 32 bits is not cut
pub put_whole : (z : Size) (p x v : ℕ) → x < 2 ^ 32 → p + bits_of z ≤ 32 → put_in z p x v ≡ set_bits p (bits_of z) x v
unfolding put_in
put_whole z p x v h l =
    let f : 32 - (p + bits_of z) + bits_of z + p ≡ 32 = omega arith in
    mod-eq_of_lt (rw f at (set_lt p (bits_of z) (32 - (p + bits_of z)) x v (rw f h)))

pub start_stays : (z : Size) (p : ℕ) → p + bits_of z ≤ 32 → p % 32 ≡ p
start_stays Byte p l = omega arith
start_stays Word p l = omega arith
start_stays Long p l = omega arith
