-- A line that is being made, as its bytes so far: a byte more where there is room.
use Rattle.std.specs.Prelude.{ℕ, List, [], ◌∷◌, ◌++◌, cond, length, ltb}

-- a byte more, where there are not yet 128
abbrev pub with_byte : List ℕ → ℕ → List ℕ
with_byte l b = cond (ltb (length l) 128) (l ++ b ∷ []) l

-- several bytes more, one after the other
unfoldable pub grown : List ℕ → List ℕ → List ℕ
grown l [] = l
grown l (b ∷ bs) = grown (with_byte l b) bs
