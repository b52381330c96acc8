-- What can depend on a marked flag, and what cannot.
use mathlib.Core.Path.{◌≡◌, refl, ap, ap₂}
use mathlib.Core.Bool.{Bool, true, false, not, cond, ◌&&◌, ◌||◌, beq}
use Prim.Native.Nat.{ℕ, zero, suc, ◌%◌}
use native.Mathlib.Omega.{arith}
use lib.Dec.{ltb}
use lib.ListN.{get_or}
use Rattle.flags.specs.declared.Flags.{Flags}
use Rattle.flags.specs.Undefined.{mark_v, marks_v}
use Rattle.flags.specs.Condition.{less_than, basic, holds_of, readers, reads_v, reads_marked}
use Rattle.flags.specs.Sums.{result_of}
use Rattle.flags.specs.Known.{Alike, KnownDecides, ReadersDepend, OthersDefined}

-- ---- a condition and its flags
module _ (f g : Flags) (s : f.s ≡ g.s) (z : f.z ≡ g.z) (c : f.c ≡ g.c) where
  less_same : f.v ≡ g.v → less_than f ≡ less_than g
  less_same v = ap₂ (λ (x y : Bool). not (beq x y)) s v

  -- where the list says that V is read, it has to be the same
  basic_same :
      (n : ℕ) → (get_or readers n false ≡ true → f.v ≡ g.v) → basic f n ≡ basic g n
  unfolding basic
  basic_same zero v = refl
  basic_same (suc zero) v = less_same (v refl)
  basic_same (suc (suc zero)) v = ap₂ (λ (x y : Bool). x || y) z (less_same (v refl))
  basic_same (suc (suc (suc zero))) v = ap₂ (λ (x y : Bool). x || y) c z
  basic_same (suc (suc (suc (suc zero)))) v = v refl
  basic_same (suc (suc (suc (suc (suc zero))))) v = s
  basic_same (suc (suc (suc (suc (suc (suc zero)))))) v = z
  basic_same (suc (suc (suc (suc (suc (suc (suc zero))))))) v = c
  basic_same (suc (suc (suc (suc (suc (suc (suc (suc n)))))))) v = refl

-- of two of which not both are so, one that is leaves the other
not_both : (a b : Bool) → (a && b) ≡ false → a ≡ true → b ≡ false
not_both true b e h = e
not_both false b e h = let k : ◌≡◌ {A = ℕ} 0 1 = cc in absurd (omega arith)

pub known_decides : KnownDecides
unfolding holds_of reads_marked reads_v
known_decides f g cc e a =
    ap (λ (b : Bool). cond (ltb (cc % 16) 8) b (not b))
    (basic_same f g a.s a.z a.c (cc % 8) (λ r. a.v (not_both _ (marks_v f.marks) e r)))

-- ---- flags that differ in V alone, which is marked
abbrev with_v : Bool → Bool → Bool → Flags
with_v s z v = record { s = s; z = z; h = false; v = v; n = false; c = false; marks = mark_v }

v_alike : (s z v w : Bool) → Alike (with_v s z v) (with_v s z w)
v_alike s z v w = record { marks = refl; s = refl; z = refl; h = λ e. refl; v = λ e. let k : ◌≡◌ {A = ℕ} 0 1 = cc in absurd (omega arith); n = refl; c = refl }

-- LT, LE and V, where S and Z are 0, are V; their opposites are not
v_basic : (n : ℕ) (v : Bool) → get_or readers n false ≡ true → basic (with_v false false v) n ≡ v
unfolding basic
v_basic zero v e = let k : ◌≡◌ {A = ℕ} 0 1 = cc in absurd (omega arith)
v_basic (suc zero) true e = refl
v_basic (suc zero) false e = refl
v_basic (suc (suc zero)) true e = refl
v_basic (suc (suc zero)) false e = refl
v_basic (suc (suc (suc zero))) v e = let k : ◌≡◌ {A = ℕ} 0 1 = cc in absurd (omega arith)
v_basic (suc (suc (suc (suc zero)))) v e = refl
v_basic (suc (suc (suc (suc (suc zero))))) v e = let k : ◌≡◌ {A = ℕ} 0 1 = cc in absurd (omega arith)
v_basic (suc (suc (suc (suc (suc (suc zero)))))) v e = let k : ◌≡◌ {A = ℕ} 0 1 = cc in absurd (omega arith)
v_basic (suc (suc (suc (suc (suc (suc (suc zero))))))) v e = let k : ◌≡◌ {A = ℕ} 0 1 = cc in absurd (omega arith)
v_basic (suc (suc (suc (suc (suc (suc (suc (suc n)))))))) v e = let k : ◌≡◌ {A = ℕ} 0 1 = cc in absurd (omega arith)

pub readers_depend : ReadersDepend
unfolding holds_of reads_v
readers_depend cc e = go (ltb (cc % 16) 8) refl
  where
    at : (b v : Bool) → ltb (cc % 16) 8 ≡ b → holds_of (with_v false false v) cc ≡ cond b v (not v)
    at b v h = ap₂ (λ (x y : Bool). cond x y (not y)) h (v_basic (cc % 8) v e)

    go :
        (b : Bool) → ltb (cc % 16) 8 ≡ b →
        (f : Flags) × (g : Flags) × Alike f g × (marks_v f.marks ≡ true) × (holds_of f cc ≡ true) × (holds_of g cc ≡ false)
    go true h = (with_v false false true, with_v false false false, v_alike false false true false, refl, at true true h, at true false h)
    go false h = (with_v false false false, with_v false false true, v_alike false false false true, refl, at false false h, at false true h)

pub others_defined : OthersDefined
unfolding result_of
others_defined k undefined r h v n c = (refl, refl, refl, refl, refl)
