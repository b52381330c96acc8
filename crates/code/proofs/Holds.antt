-- A range holds exactly where it computes to true.
use mathlib.Core.Path.{◌≡◌, refl}
use mathlib.Core.Bool.{Bool, true, false, ◌&&◌, ◌||◌}
use mathlib.Core.Logic.{◌⊎◌, inl, inr}
use native.Mathlib.Omega.{arith}
use Prim.Native.Nat.{ℕ}
use borrow.Author.Tests.{ltb-true, eqb-true, lt-ltb, eq-eqb}
use Rattle.code.specs.Range.{Range, never, always, ◌below◌, ◌equals◌, ◌and◌, ◌or◌, Holds, holds, that}

-- ---- a test of two parts
pub both_true : (a b : Bool) → a && b ≡ true → (a ≡ true) × (b ≡ true)
both_true true b e = (refl, e)
both_true false b e = let z : ◌≡◌ {A = ℕ} 0 1 = cc in let y : ⊥ = omega arith in absurd y

pub either_true : (a b : Bool) → a || b ≡ true → (a ≡ true) ⊎ (b ≡ true)
either_true true b e = inl refl
either_true false b e = inr e

true_either : (a b : Bool) → (a ≡ true) ⊎ (b ≡ true) → a || b ≡ true
true_either true b e = refl
true_either false b (inl e) = let z : ◌≡◌ {A = ℕ} 0 1 = cc in let y : ⊥ = omega arith in absurd y
true_either false b (inr e) = e

pub holds_so : (p : Range) → holds p ≡ true → Holds p
holds_so never e = let z : ◌≡◌ {A = ℕ} 0 1 = cc in omega arith
holds_so always e = tt
holds_so (a below b) e = ltb-true a b e
holds_so (a equals b) e = eqb-true a b e
holds_so (p and q) e = let t = both_true (holds p) (holds q) e in (holds_so p t.0, holds_so q t.1)
holds_so (p or q) e = elim (either_true (holds p) (holds q) e) [ inl t ↦ inl (holds_so p t) | inr t ↦ inr (holds_so q t) ]

pub so_holds : (p : Range) → Holds p → holds p ≡ true
so_holds never h = absurd h
so_holds always h = refl
so_holds (a below b) h = lt-ltb a b h
so_holds (a equals b) h = eq-eqb a b h
so_holds (p and q) h = rw (so_holds p h.0) (so_holds q h.1)
so_holds (p or q) (inl h) = true_either (holds p) (holds q) (inl (so_holds p h))
so_holds (p or q) (inr h) = true_either (holds p) (holds q) (inr (so_holds q h))

pub so_that : {b : Bool} → b ≡ true → Holds (that b)
so_that e = rw e tt

pub that_so : (b : Bool) → Holds (that b) → b ≡ true
that_so true h = refl
that_so false h = absurd h
