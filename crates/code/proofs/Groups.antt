-- Bytes in groups of eight: what is computed at each byte of a group holds of any byte in it.
use Prim.Native.Nat.{ℕ, zero, suc, ◌+◌, ◌*◌, ◌/◌, ◌%◌, ◌≤◌, ◌<◌}
use mathlib.Core.Path.{◌≡◌, refl, subst}
use mathlib.Core.Bool.{Bool, true, false, ◌||◌}
use mathlib.Core.List.{List, [], ◌∷◌}
use mathlib.Core.Logic.{◌⊎◌, inl, inr}
use native.Mathlib.Omega.{arith}
use lib.Dec.{T, eqb}
use borrow.Author.Tests.{eqb-true, eqb-false}
use mir.Val.{has_key}
use types.Run.{OneOf, hit}

-- at the eight bytes of group k
abbrev pub Eight : (ℕ → Type 0) → ℕ → Type 0
Eight P k =
    P (8 * k + 0)
    × P (8 * k + 1)
    × P (8 * k + 2)
    × P (8 * k + 3)
    × P (8 * k + 4)
    × P (8 * k + 5)
    × P (8 * k + 6)
    × P (8 * k + 7)

place : (P : ℕ → Type 0) (k : ℕ) → Eight P k → (r : ℕ) → r < 8 → P (8 * k + r)
place P k e zero h = e.0
place P k e (suc zero) h = e.1
place P k e (suc (suc zero)) h = e.2
place P k e (suc (suc (suc zero))) h = e.3
place P k e (suc (suc (suc (suc zero)))) h = e.4
place P k e (suc (suc (suc (suc (suc zero))))) h = e.5
place P k e (suc (suc (suc (suc (suc (suc zero)))))) h = e.6
place P k e (suc (suc (suc (suc (suc (suc (suc zero))))))) h = e.7
place P k e (suc (suc (suc (suc (suc (suc (suc (suc r)))))))) h = let z : ⊥ = omega arith in absurd z

pub in_group : (P : ℕ → Type 0) (k : ℕ) → Eight P k → (b : ℕ) → b / 8 ≡ k → P b
in_group P k e b h =
    let q : 8 * k + b % 8 ≡ b = omega arith in
    subst P q (place P k e (b % 8) (omega arith))

-- ---- the numbers that no arm of a `match` has; its arms are written last first
abbrev pub Missed : List (List ℕ) → ℕ → Type 0
Missed [] x = Unit {0}
Missed (ks ∷ kss) x = Missed kss x × (OneOf ks x → ⊥)

abbrev pub matched : List (List ℕ) → ℕ → Bool
matched [] x = false
matched (ks ∷ kss) x = has_key ks x || matched kss x

or_cases : (a b : Bool) → a || b ≡ true → (T a) ⊎ (b ≡ true)
or_cases true b e = inl tt
or_cases false b e = inr e

pub not_both : (kss : List (List ℕ)) (x : ℕ) → Missed kss x → matched kss x ≡ true → ⊥
not_both [] x m e = let z : ◌≡◌ {A = ℕ} 0 1 = cc in omega arith
not_both (ks ∷ kss) x m e = elim (or_cases (has_key ks x) (matched kss x) e) [ inl t ↦ m.1 (hit ks x t) | inr f ↦ not_both kss x m.0 f ]

pub same_or_not : (x y : ℕ) → (x ≡ y) ⊎ (x ≡ y → ⊥)
same_or_not x y = go (eqb x y) refl
  where
    go : (t : Bool) → eqb x y ≡ t → (x ≡ y) ⊎ (x ≡ y → ⊥)
    go true e = inl (eqb-true x y e)
    go false e = inr (eqb-false x y e)

-- a `match` with the arms 0, 1 .. up to a number
abbrev pub Below : ℕ → List (List ℕ)
Below zero = []
Below (suc k) = (k ∷ []) ∷ Below k

pub none_below : (k x : ℕ) → Missed (Below k) x → k ≤ x
none_below zero x m = omega arith
none_below (suc k) x m = let h : k ≤ x = none_below k x m.0 in let d : x ≡ k → ⊥ = m.1 in omega arith

pub all_above : (k x : ℕ) → k ≤ x → Missed (Below k) x
all_above zero x h = tt
all_above (suc k) x h = (all_above k x (omega arith), λ e. omega arith)
