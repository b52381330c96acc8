-- One walk over the codes, row by row: the bytes that an instruction is read from are those that it is written as, at most seven,
-- each of its codes and numbers is within its range, and wherever bytes are missing, some bytes make it whole.
use Prim.Native.Nat.{ℕ, ◌+◌, ◌≤◌, ◌<◌, ◌^◌}
use mathlib.Core.Path.{◌≡◌}
use mathlib.Core.List.{List, [], ◌∷◌, ◌++◌}
use Rattle.little.specs.Bytes.{bytes_from}
use Rattle.little.specs.declared.Size.{Size}
use Rattle.code.specs.declared.Op.{Op}
use Rattle.code.specs.declared.Operand.{Operand}
use Rattle.code.specs.Said.{Said, whole, unlisted, next, number}
use Rattle.code.specs.Rows.{Row, by_rows}
use Rattle.code.specs.Range.{InRange}
use Rattle.code.specs.Written.{code_of}
use Rattle.code.proofs.AllRows.{AllRows, in_rows, both_rows}

-- some bytes make it whole
abbrev pub Can : Said → Type 0
Can (whole op z o) = Unit {0}
Can unlisted = ⊥
Can (next f) = (b : ℕ) × (b < 256) × Can (f b)
Can (number n f) = (v : ℕ) → Can (f v)

-- Y says that all are bytes
module _ (Y : Type 0) where
  -- of an instruction of i bytes, which are p
  abbrev pub Fine : ℕ → List ℕ → Op → Size → Operand → Type 0
  Fine i p op z o = (i ≤ 7) × (p ≡ code_of op z o) × (Y → InRange op z o)

  -- of every instruction that may still come after the i bytes p
  abbrev pub Walk : Said → ℕ → List ℕ → Type 0
  Walk (whole op z o) i p = Fine i p op z o
  Walk unlisted i p = Unit {0}
  Walk (next f) i p = Can (next f) × ((b : ℕ) → Walk (f b) (i + 1) (p ++ (b ∷ [])))
  Walk (number n f) i p = ((v : ℕ) → Can (f v)) × ((v : ℕ) → (Y → v < 256 ^ n) → Walk (f v) (i + n) (p ++ bytes_from n v))

  -- row by row: with the row's byte they are i
  abbrev pub Rows : List Row → ℕ → List ℕ → Type 0
  Rows rs i p = AllRows (λ b j. Walk j i (p ++ (b ∷ []))) rs

  pub by_rows_lem : (rs : List Row) (i : ℕ) (p : List ℕ) → Can (by_rows rs) → Rows rs (i + 1) p → Walk (by_rows rs) i p
  by_rows_lem rs i p c e = (c, in_rows (λ b j. Walk j (i + 1) (p ++ (b ∷ []))) (λ b. tt) rs e)

  pub both : (xs ys : List Row) (i : ℕ) (p : List ℕ) → Rows xs i p → Rows ys i p → Rows (xs ++ ys) i p
  both xs ys i p e f = both_rows (λ b j. Walk j i (p ++ (b ∷ []))) xs ys e f
