-- F with its marks and the flags are the same thing: one test computed over all 64 settings of the flags, and one over all bytes.
use mathlib.Core.Path.{◌≡◌, refl, sym, subst, ap, ap₂, ◌∙◌}
use mathlib.Core.Bool.{Bool, true, false, not, ◌&&◌, ◌||◌, beq}
use Prim.Native.Nat.{ℕ, ◌+◌, ◌-◌, ◌*◌, ◌/◌, ◌%◌, ◌^◌, ◌<◌}
use native.Mathlib.Omega.{arith}
use lib.Pow.{mod-mod-pow, field}
use lib.Dec.{T, eqb, ltb, eqb→eq, ltb→lt}
use Rattle.flags.specs.declared.Flags.{Flags}
use Rattle.flags.specs.Flag.{byte_of, packed_of, flags_of}
use Rattle.flags.proofs.Bools.{beq_eq, left, right, below}

abbrev each : (Bool → Bool) → Bool
each p = p true && p false

at : (p : Bool → Bool) → T (each p) → (b : Bool) → T (p b)
at p t true = left (p true) (p false) t
at p t false = right (p true) (p false) t

-- a test of the flags that passes at all 64 settings with some marks passes at any flags with these
abbrev all : (Flags → Bool) → ℕ → Bool
all p m = each λ s. each λ z. each λ h. each λ v. each λ n. each λ c. p (record { s = s; z = z; h = h; v = v; n = n; c = c; marks = m })

all_flags : (p : Flags → Bool) (f : Flags) → T (all p f.marks) → T (p f)
all_flags p f t =
    let m = f.marks in
    at (λ c. p (record { s = f.s; z = f.z; h = f.h; v = f.v; n = f.n; c = c; marks = m }))
    (at (λ n. each λ c. p (record { s = f.s; z = f.z; h = f.h; v = f.v; n = n; c = c; marks = m }))
    (at (λ v. each λ n. each λ c. p (record { s = f.s; z = f.z; h = f.h; v = v; n = n; c = c; marks = m }))
    (at (λ h. each λ v. each λ n. each λ c. p (record { s = f.s; z = f.z; h = h; v = v; n = n; c = c; marks = m }))
    (at (λ z. each λ h. each λ v. each λ n. each λ c. p (record { s = f.s; z = z; h = h; v = v; n = n; c = c; marks = m }))
    (at (λ s. each λ z. each λ h. each λ v. each λ n. each λ c. p (record { s = s; z = z; h = h; v = v; n = n; c = c; marks = m })) t f.s)
    f.z) f.h) f.v) f.n) f.c

-- what a flag is after packing and unpacking, tested at all settings
same : (get : Flags → Bool) (f : Flags) → (unfold flags_of byte_of in T (all (λ g. beq (get (flags_of (byte_of g))) (get g)) f.marks)) → get (flags_of (byte_of f)) ≡ get f
unfolding flags_of byte_of
same get f t = beq_eq (get (flags_of (byte_of f))) (get f) (all_flags (λ g. beq (get (flags_of (byte_of g))) (get g)) f t)

pub packed_lt : (f : Flags) → byte_of f < 256
unfolding byte_of
packed_lt f = ltb→lt (byte_of f) 256 (all_flags (λ g. ltb (byte_of g) 256) f tt)

-- ---- what stands above the low byte does not show in its bits
-- a bit of a number is that of its low byte
low_bit : (x p : ℕ) → p < 8 → x % 2 ^ 8 / 2 ^ p % 2 ≡ x / 2 ^ p % 2
low_bit x p h =
    let e : 8 - p + p ≡ 8 = omega arith in
    let f : 7 - p + 1 ≡ 8 - p = omega arith in
    ap (λ (n : ℕ). x % 2 ^ n / 2 ^ p % 2) (sym e)
    ∙ ap (λ (n : ℕ). n % 2) (field x (8 - p) p)
    ∙ ap (λ (n : ℕ). x / 2 ^ p % 2 ^ n % 2) (sym f)
    ∙ mod-mod-pow (x / 2 ^ p) (7 - p) 1

bit_of : (b m p : ℕ) → p < 8 → (b + 256 * m) / 2 ^ p % 2 ≡ b / 2 ^ p % 2
bit_of b m p h =
    let low : (b + 256 * m) % 256 ≡ b % 256 = omega arith in
    sym (low_bit (b + 256 * m) p h) ∙ ap (λ (n : ℕ). n / 2 ^ p % 2) low ∙ low_bit b p h

lowest : (b m : ℕ) → (b + 256 * m) % 2 ≡ b % 2
lowest b m = omega arith

over : (b m : ℕ) → b < 256 → (b + 256 * m) / 256 ≡ m
over b m h = omega arith

abbrev odd : ℕ → Bool
odd n = eqb n 1

-- packing and unpacking give back the flags and the marks
pub unpacked : (f : Flags) → flags_of (packed_of f) ≡ f
unfolding flags_of byte_of packed_of
unpacked f = λ i. record {
  s = (ap odd (bit_of (byte_of f) f.marks 7 (omega arith)) ∙ same (λ g. g.s) f tt) i;
  z = (ap odd (bit_of (byte_of f) f.marks 6 (omega arith)) ∙ same (λ g. g.z) f tt) i;
  h = (ap odd (bit_of (byte_of f) f.marks 4 (omega arith)) ∙ same (λ g. g.h) f tt) i;
  v = (ap odd (bit_of (byte_of f) f.marks 2 (omega arith)) ∙ same (λ g. g.v) f tt) i;
  n = (ap odd (bit_of (byte_of f) f.marks 1 (omega arith)) ∙ same (λ g. g.n) f tt) i;
  c = (ap odd (lowest (byte_of f) f.marks) ∙ same (λ g. g.c) f tt) i;
  marks = over (byte_of f) f.marks (packed_lt f) i;
}

holds : (b : Bool) → T b → b ≡ true
holds true t = refl
holds false t = absurd t

passes : (b : Bool) → b ≡ true → T b
passes b e = subst (λ (b : Bool). T b) (sym e) tt

-- ---- the bits of a packed number: 5 and 3 are zero, 4 is H, 2 is V, 8 and 9 are their marks
abbrev bits53 : ℕ → Bool
bits53 x = eqb (x / 32 % 2) 0 && eqb (x / 8 % 2) 0

abbrev zero_at_lem : (ℕ → ℕ) → (f : Flags) → Bool
zero_at_lem bit f = eqb (bit (byte_of f)) 0

pub packed_5 : (f : Flags) → eqb (packed_of f / 32 % 2) 0 ≡ true
unfolding byte_of packed_of
packed_5 f = ap (λ (n : ℕ). eqb n 0) (bit_of (byte_of f) f.marks 5 (omega arith)) ∙ holds _ (all_flags (zero_at_lem (λ n. n / 32 % 2)) f tt)

pub packed_3 : (f : Flags) → eqb (packed_of f / 8 % 2) 0 ≡ true
unfolding byte_of packed_of
packed_3 f = ap (λ (n : ℕ). eqb n 0) (bit_of (byte_of f) f.marks 3 (omega arith)) ∙ holds _ (all_flags (zero_at_lem (λ n. n / 8 % 2)) f tt)

pub packed_h : (f : Flags) → eqb (packed_of f / 16 % 2) 0 ≡ not f.h
unfolding byte_of packed_of
packed_h f =
    ap (λ (n : ℕ). eqb n 0) (bit_of (byte_of f) f.marks 4 (omega arith))
    ∙ beq_eq _ _ (all_flags (λ g. beq (eqb (byte_of g / 16 % 2) 0) (not g.h)) f tt)

pub packed_v : (f : Flags) → eqb (packed_of f / 4 % 2) 0 ≡ not f.v
unfolding byte_of packed_of
packed_v f =
    ap (λ (n : ℕ). eqb n 0) (bit_of (byte_of f) f.marks 2 (omega arith))
    ∙ beq_eq _ _ (all_flags (λ g. beq (eqb (byte_of g / 4 % 2) 0) (not g.v)) f tt)

pub packed_marks : (f : Flags) → packed_of f / 256 ≡ f.marks
unfolding packed_of
packed_marks f = over (byte_of f) f.marks (packed_lt f)

-- ---- unpacking and packing give back a number whose bits 5 and 3 are zero
abbrev packs : ℕ → Bool
packs x = not (bits53 x) || eqb (byte_of (flags_of x)) x

or_right : (a b : Bool) → T (not a || b) → T a → T b
or_right true b t h = t
or_right false b t h = absurd h

packed_byte : (x : ℕ) → x < 256 → bits53 x ≡ true → byte_of (flags_of x) ≡ x
unfolding byte_of flags_of
packed_byte x l e =
    eqb→eq (byte_of (flags_of x)) x (or_right (bits53 x) (eqb (byte_of (flags_of x)) x) (below packs 256 tt x l) (passes (bits53 x) e))

-- F of a number is that of its low byte
low_byte : (b m : ℕ) → byte_of (flags_of (b + 256 * m)) ≡ byte_of (flags_of b)
unfolding byte_of flags_of
low_byte b m = rw (bit_of b m 7 (omega arith), bit_of b m 6 (omega arith), bit_of b m 4 (omega arith), bit_of b m 2 (omega arith), bit_of b m 1 (omega arith), lowest b m)

pub byte_low : (x : ℕ) → byte_of (flags_of (x % 256)) ≡ byte_of (flags_of x)
byte_low x =
    let parts : x % 256 + 256 * (x / 256) ≡ x = omega arith in
    sym (low_byte (x % 256) (x / 256)) ∙ ap (λ (n : ℕ). byte_of (flags_of n)) parts

split : (x : ℕ) → packed_of (flags_of x) ≡ byte_of (flags_of x) + 256 * (x / 256)
unfolding packed_of flags_of
split x = refl

pub packed : (x : ℕ) → (eqb (x / 32 % 2) 0 && eqb (x / 8 % 2) 0) ≡ true → packed_of (flags_of x) ≡ x
packed x e =
    let b = x % 256 in
    let m = x / 256 in
    let parts : x ≡ b + 256 * m = omega arith in
    let bits : bits53 b ≡ true = sym (ap₂ (λ (p q : ℕ). eqb p 0 && eqb q 0) (bit_of b m 5 (omega arith)) (bit_of b m 3 (omega arith))) ∙ ap bits53 (sym parts) ∙ e in
    split x ∙ ap (λ (n : ℕ). n + 256 * m) (ap (λ (n : ℕ). byte_of (flags_of n)) parts ∙ low_byte b m ∙ packed_byte b (omega arith) bits) ∙ sym parts
