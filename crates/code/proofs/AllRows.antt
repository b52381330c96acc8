-- What holds row by row holds of what a list says of any byte.
use Prim.Native.Nat.{ℕ}
use mathlib.Core.Path.{◌≡◌, refl}
use mathlib.Core.Bool.{Bool, true, false, cond}
use mathlib.Core.List.{List, [], ◌∷◌, ◌++◌}
use Rattle.code.specs.Said.{Said, unlisted}
use Rattle.code.specs.Rows.{Row, has, lookup}

module _ (Q : ℕ → Said → Type 0) where
  -- each row says it of the bytes that it is for
  abbrev pub AllRows : List Row → Type 0
  AllRows [] = Unit {0}
  AllRows (r ∷ rs) = ((b : ℕ) → has r.bytes b ≡ true → Q b (r.says b)) × AllRows rs

  pub in_rows : ((b : ℕ) → Q b unlisted) → (rs : List Row) → AllRows rs → (b : ℕ) → Q b (lookup rs b)
  unfolding lookup
  in_rows n [] e b = n b
  in_rows n (r ∷ rs) e b = go (has r.bytes b) refl (in_rows n rs e.1 b)
    where
      go : (t : Bool) → has r.bytes b ≡ t → Q b (lookup rs b) → Q b (cond t (r.says b) (lookup rs b))
      go true a f = e.0 b a
      go false a f = f

  pub both_rows : (xs ys : List Row) → AllRows xs → AllRows ys → AllRows (xs ++ ys)
  both_rows [] ys e f = f
  both_rows (x ∷ xs) ys e f = (e.0, both_rows xs ys e.1 f)
