-- A number that is none of 1 to 7 names no condition that can hold; one that is none of 1, 2 and 4 names none that reads V. And that a
-- condition 8 on is the opposite.
use mathlib.Core.Path.{◌≡◌, refl, ap₂, ◌∙◌}
use mathlib.Core.Bool.{Bool, true, false, not, cond}
use lib.Dec.{ltb}
use lib.ListN.{get_or}
use Prim.Native.Nat.{ℕ, zero, suc, ◌+◌, ◌%◌}
use native.Mathlib.Omega.{arith}
use borrow.Author.Tests.{lt-ltb, le-ltb, ltb-true, ltb-false}
use Rattle.flags.specs.declared.Flags.{Flags}
use Rattle.flags.specs.Condition.{basic, holds_of, readers, EightOnIsOpposite}

pub none : (f : Flags) (n : ℕ) → (n ≡ 1 → ⊥) → (n ≡ 2 → ⊥) → (n ≡ 3 → ⊥) → (n ≡ 4 → ⊥) → (n ≡ 5 → ⊥) → (n ≡ 6 → ⊥) → (n ≡ 7 → ⊥) → false ≡ basic f n
unfolding basic
none f zero a b c d e g h = refl
none f (suc zero) a b c d e g h = absurd (a refl)
none f (suc (suc zero)) a b c d e g h = absurd (b refl)
none f (suc (suc (suc zero))) a b c d e g h = absurd (c refl)
none f (suc (suc (suc (suc zero)))) a b c d e g h = absurd (d refl)
none f (suc (suc (suc (suc (suc zero))))) a b c d e g h = absurd (e refl)
none f (suc (suc (suc (suc (suc (suc zero)))))) a b c d e g h = absurd (g refl)
none f (suc (suc (suc (suc (suc (suc (suc zero))))))) a b c d e g h = absurd (h refl)
none f (suc (suc (suc (suc (suc (suc (suc (suc n)))))))) a b c d e g h = refl

pub no_v : (n : ℕ) → (n ≡ 1 → ⊥) → (n ≡ 2 → ⊥) → (n ≡ 4 → ⊥) → false ≡ get_or readers n false
no_v zero a b d = refl
no_v (suc zero) a b d = absurd (a refl)
no_v (suc (suc zero)) a b d = absurd (b refl)
no_v (suc (suc (suc zero))) a b d = refl
no_v (suc (suc (suc (suc zero)))) a b d = absurd (d refl)
no_v (suc (suc (suc (suc (suc zero))))) a b d = refl
no_v (suc (suc (suc (suc (suc (suc zero)))))) a b d = refl
no_v (suc (suc (suc (suc (suc (suc (suc zero))))))) a b d = refl
no_v (suc (suc (suc (suc (suc (suc (suc (suc n)))))))) a b d = refl

-- of 16 codes in turn, those 8 on from the lower half are in the upper, and the other way round
turned : (c : ℕ) → ltb ((c + 8) % 16) 8 ≡ not (ltb (c % 16) 8)
turned c = go (ltb (c % 16) 8) refl
  where
    go : (b : Bool) → ltb (c % 16) 8 ≡ b → ltb ((c + 8) % 16) 8 ≡ not b
    go true e = let l = ltb-true (c % 16) 8 e in le-ltb ((c + 8) % 16) 8 (omega arith)
    go false e = let l = ltb-false (c % 16) 8 e in lt-ltb ((c + 8) % 16) 8 (omega arith)

opposite : (t b : Bool) → cond (not t) b (not b) ≡ not (cond t b (not b))
opposite true b = refl
opposite false true = refl
opposite false false = refl

pub eight_on_is_opposite : EightOnIsOpposite
unfolding holds_of
eight_on_is_opposite f c =
    let same : (c + 8) % 8 ≡ c % 8 = omega arith in
    ap₂ (λ (t : Bool) (n : ℕ). cond t (basic f n) (not (basic f n))) (turned c) same
    ∙ opposite (ltb (c % 16) 8) (basic f (c % 8))
