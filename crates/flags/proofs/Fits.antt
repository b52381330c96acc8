-- Whatever an instruction makes of the flags, a marked one is 0.
use mathlib.Core.Path.{◌≡◌, refl, ap, ◌∙◌}
use mathlib.Core.Bool.{Bool, true, false, not, cond, ◌&&◌, ◌||◌}
use Prim.Native.Nat.{ℕ, ◌+◌, ◌*◌, ◌/◌, ◌%◌, ◌≤◌, ◌<◌}
use native.Mathlib.Omega.{arith}
use lib.Dec.{ltb, eqb}
use borrow.Author.Tests.{lt-ltb, ltb-true}
use Rattle.flags.specs.declared.Flags.{Flags}
use Rattle.flags.specs.Flag.{keeping_c, carried, copied_of, compared_of}
use Rattle.flags.specs.Undefined.{nothing, mark_h, mark_v, Made, by_sum, by_parity, by_rcf_scf, by_ccf_zcf, undefined_of, marks_h, marks_v}
use Rattle.flags.specs.Sums.{result_of, computed_of, sum_of, difference_of}

-- no flag is marked but H and V, and one that is marked is 0
unfoldable pub marked_are_zero : Flags → Bool
marked_are_zero f =
    ltb f.marks 4 && ((not (marks_h f.marks) || not f.h) && (not (marks_v f.marks) || not f.v))

-- the same, taken apart
pub record Fits (f : Flags) : Type 0 where
  pub few : f.marks < 4
  pub h : (not (marks_h f.marks) || not f.h) ≡ true
  pub v : (not (marks_v f.marks) || not f.v) ≡ true

both : (a b : Bool) → (a && b) ≡ true → (a ≡ true) × (b ≡ true)
both true b e = (refl, e)
both false b e = let z : ◌≡◌ {A = ℕ} 0 1 = cc in absurd (omega arith)

pub fits_says : (f : Flags) → marked_are_zero f ≡ true → Fits f
unfolding marked_are_zero
fits_says f e =
    let a = both (ltb f.marks 4) _ e in
    let b = both (not (marks_h f.marks) || not f.h) _ a.1 in
    record { few = ltb-true _ _ a.0; h = b.0; v = b.1 }

pub fits_from : (f : Flags) → Fits f → marked_are_zero f ≡ true
unfolding marked_are_zero
fits_from f x = rw (lt-ltb _ _ x.few, x.h, x.v) refl

-- ---- results
few_or_none : (b : Bool) (m : ℕ) → m < 4 → cond b nothing m < 4
few_or_none true m h = omega arith
few_or_none false m h = h

few : (m : Made) → undefined_of m < 4
few (by_sum k) = few_or_none (ltb k 32) mark_h (omega arith)
few (by_parity k) = few_or_none (ltb k 32) mark_v (omega arith)
few by_rcf_scf = omega arith
few by_ccf_zcf = omega arith

-- a flag that is taken away where it is marked
taken : (m b : Bool) → (not m || not (not m && b)) ≡ true
taken true b = refl
taken false b = refl

pub computed_fits : (k r : ℕ) (m : Made) (h v n c : Bool) → Fits (computed_of k (undefined_of m) r h v n c).flags
unfolding result_of
computed_fits k r m h v n c = record { few = few m; h = taken (marks_h (undefined_of m)) h; v = taken (marks_v (undefined_of m)) v }

pub sum_fits : (k a b : ℕ) (c : Bool) → Fits (sum_of k a b c).flags
unfolding sum_of
sum_fits k a b c = computed_fits k _ (by_sum k) _ _ _ _

pub difference_fits : (k a b : ℕ) (c : Bool) → Fits (difference_of k a b c).flags
unfolding difference_of
difference_fits k a b c = computed_fits k _ (by_sum k) _ _ _ _

pub keeping_fits : (old f : Flags) → Fits f → Fits (keeping_c old f)
keeping_fits old f x = record { few = x.few; h = x.h; v = x.v }

-- ---- RCF to ZCF, LDI, CPI
-- H is 0, marked or not
nought : (b : Bool) → (not b || not false) ≡ true
nought true = refl
nought false = refl

pub carried_fits : (f : Flags) (m : ℕ) (c : Bool) → m ≤ 1 → Fits f → Fits (carried f m c)
carried_fits f m c l x =
    let t : (f.marks / 2 * 2 + m) / 2 ≡ f.marks / 2 = omega arith in
    record {
      few = omega (arith, x.few);
      h = nought (marks_h (f.marks / 2 * 2 + m));
      v = ap (λ (n : ℕ). not (eqb (n % 2) 1) || not f.v) t ∙ x.v;
    }

pub copied_fits : (old : Flags) (more : Bool) → Fits (copied_of old more)
copied_fits old more = record { few = omega arith; h = refl; v = refl }

pub compared_fits : (old f : Flags) (more : Bool) → Fits f → Fits (compared_of old f more)
compared_fits old f more x =
    let t : f.marks % 2 % 2 ≡ f.marks % 2 = omega arith in
    let u : f.marks % 2 / 2 ≡ 0 = omega arith in
    record {
      few = omega arith;
      h = ap (λ (n : ℕ). not (eqb n 1) || not f.h) t ∙ x.h;
      v = ap (λ (n : ℕ). not (eqb (n % 2) 1) || not more) u;
    }
