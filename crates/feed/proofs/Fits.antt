-- What MUL to DIVS leave of the flags and their marks.
use Prim.Native.Nat.{ℕ, ◌%◌, ◌/◌}
use mathlib.Core.Path.{◌≡◌, refl, ap, ◌∙◌}
use mathlib.Core.Bool.{Bool, not, ◌||◌}
use native.Mathlib.Omega.{arith}
use lib.Dec.{eqb}
use Rattle.flags.specs.declared.Flags.{Flags}
use Rattle.flags.specs.Flag.{dividing}
use Rattle.flags.specs.Undefined.{marks_h}
use Rattle.flags.proofs.Fits.{Fits}
use Rattle.feed.specs.declared.scale.Scale.{Scale}
use Rattle.feed.specs.declared.scale.Scale.TheVariants.{Mul, Muls, Div, Divs}
use Rattle.feed.specs.Scale.{div_of, divs_of, scaled}
use Rattle.feed.specs.Division.{ProductsKeepFlags, VTells, DivTells}

h_stays : (m : ℕ) → marks_h (m % 2) ≡ marks_h m
h_stays m = let t : m % 2 % 2 ≡ m % 2 = omega arith in ap (λ (n : ℕ). eqb n 1) t

v_goes : (m : ℕ) → m % 2 / 2 % 2 ≡ 0
v_goes m = let u : m % 2 / 2 ≡ 0 = omega arith in ap (λ (n : ℕ). n % 2) u

dividing_fits : (old : Flags) (over : Bool) → Fits old → Fits (dividing old over)
dividing_fits old over x =
    record {
      few = omega arith;
      h = ap (λ (m : Bool). not m || not old.h) (h_stays old.marks) ∙ x.h;
      v = ap (λ (n : ℕ). not (eqb n 1) || not over) (v_goes old.marks);
    }

-- a marked flag stays 0
pub scaled_fits : (how : Scale) (k a b : ℕ) (old : Flags) → Fits old → Fits (scaled how k a b old).flags
scaled_fits Mul k a b old x = x
scaled_fits Muls k a b old x = x
scaled_fits Div k a b old x = dividing_fits old (div_of k a b).over x
scaled_fits Divs k a b old x = dividing_fits old (divs_of k a b).over x

pub products_keep_flags : ProductsKeepFlags
products_keep_flags k a b old = (refl, refl)

tells : (old : Flags) (over : Bool) → VTells old (dividing old over) over
tells old over =
    record {
      v = refl;
      known = ap (λ (n : ℕ). eqb n 1) (v_goes old.marks);
      h = refl;
      mark = h_stays old.marks;
      s = refl;
      z = refl;
      n = refl;
      c = refl;
    }

pub div_tells : DivTells
div_tells k a b old = (tells old (div_of k a b).over, tells old (divs_of k a b).over)
