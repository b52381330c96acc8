-- What a number of up to four bytes is.
use Prim.Native.Nat.{ℕ, zero, suc, ◌≤◌}
use mathlib.Core.Path.{◌≡◌, refl, ap, ◌∙◌}
use mathlib.Core.List.{List}
use native.Mathlib.Omega.{arith}
use Rattle.code.specs.Said.{number_at}
use Rattle.code.specs.inner.Parts.{up_to_four}
use Rattle.std.proofs.Common.{Option}

few : (n : ℕ) → n ≤ 4 → up_to_four n ≡ n
few zero h = refl
few (suc zero) h = refl
few (suc (suc zero)) h = refl
few (suc (suc (suc zero))) h = refl
few (suc (suc (suc (suc zero)))) h = refl
few (suc (suc (suc (suc (suc n))))) h = let z : ⊥ = omega arith in absurd z

-- such a number is read whole
pub as_many : (s : List ℕ) (i n : ℕ) {r : Option ℕ} → n ≤ 4 → r ≡ number_at s i (up_to_four n) → r ≡ number_at s i n
as_many s i n h e = e ∙ ap (number_at s i) (few n h)
