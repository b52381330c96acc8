-- A set of flags is valid in a state exactly where its marked ones are 0.
use Rattle.std.proofs.Common.{◌≡◌, ℕ, ◌/◌, ◌%◌, Bool, true, false, not, ◌&&◌, eqb, ltb, sym, refl, ap, ◌∙◌, arith, shr-shr, ltb-false, ltb-true, le-ltb, lt-ltb, eq-eqb, ne_eqb, eqb-true}
use borrow.Author.Tests.{eqb-false}
use Rattle.flags.specs.declared.Flags.{Flags}
use Rattle.flags.specs.Flag.{packed_of, flags_of}
use Rattle.flags.proofs.Packed.{packed, packed_5, packed_3, packed_h, packed_v, packed_marks}
use Rattle.flags.proofs.Fits.{marked_are_zero, Fits, fits_says, fits_from}
use Rattle.state.specs.State.{clear, flags_valid}

-- a bit is 0 exactly where it is not 1
not_one : (n : ℕ) → eqb (n % 2) 0 ≡ not (eqb (n % 2) 1)
not_one n = go (eqb (n % 2) 1) refl
  where
    go : (b : Bool) → eqb (n % 2) 1 ≡ b → eqb (n % 2) 0 ≡ not b
    go true e = ne_eqb (n % 2) 0 (λ (z : n % 2 ≡ 0). omega (arith, eqb-true (n % 2) 1 e))
    go false e =
        let f = eqb-false (n % 2) 1 e in
        eq-eqb (n % 2) 0 (omega arith)

below_four : (x m : ℕ) → x / 256 ≡ m → ltb x 1024 ≡ ltb m 4
below_four x m e = go (ltb m 4) refl
  where
    go : (b : Bool) → ltb m 4 ≡ b → ltb x 1024 ≡ b
    go true f = lt-ltb x 1024 (omega (arith, ltb-true m 4 f))
    go false f = le-ltb x 1024 (omega (arith, ltb-false m 4 f))

pub packed_valid : (f : Flags) → flags_valid (packed_of f) ≡ marked_are_zero f
unfolding marked_are_zero
packed_valid f =
    let x = packed_of f in
    let marks = packed_marks f in
    let high : x / 512 ≡ f.marks / 2 = sym (shr-shr x 8 1) ∙ ap (λ (n : ℕ). n / 2) marks in
    rw (packed_5 f, packed_3 f, below_four x f.marks marks, packed_h f, packed_v f, marks, high, not_one f.marks, not_one (f.marks / 2)) refl

-- a valid set is its flags and marks, and nothing else
pub valid_packed : (x : ℕ) → flags_valid x ≡ true → packed_of (flags_of x) ≡ x
valid_packed x e = packed x (bits (clear 5 x) (clear 3 x) _ e)
  where
    bits : (a b c : Bool) → (a && (b && c)) ≡ true → (a && b) ≡ true
    bits true true c e = refl
    bits true false c e = e
    bits false b c e = e

-- the flags of a valid set have their marked ones 0
pub valid_fits : (x : ℕ) → flags_valid x ≡ true → Fits (flags_of x)
valid_fits x e = fits_says (flags_of x) (sym (packed_valid (flags_of x)) ∙ ap flags_valid (valid_packed x e) ∙ e)

pub fits_valid : (f : Flags) → Fits f → flags_valid (packed_of f) ≡ true
fits_valid f x = packed_valid f ∙ fits_from f x
