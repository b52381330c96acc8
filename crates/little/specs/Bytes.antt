-- Numbers as bytes, low byte first.
use Rattle.std.specs.Prelude.{ℕ, zero, suc, ◌+◌, ◌*◌, ◌/◌, ◌%◌, ◌^◌, ◌<◌, List, [], ◌∷◌, ◌++◌, length, get_or, take, drop}

-- every number of the list is a byte
abbrev pub Bytes : List ℕ → Type 0
Bytes l = (i : ℕ) → get_or l i 0 < 2 ^ 8

-- the number whose bytes are these
unfoldable pub value_of : List ℕ → ℕ
value_of [] = 0
value_of (b ∷ bs) = b + 256 * value_of bs

-- the n low bytes of v
unfoldable pub bytes_from : ℕ → ℕ → List ℕ
bytes_from zero v = []
bytes_from (suc n) v = (v % 256) ∷ bytes_from n (v / 256)

-- a list with as many of its elements, from o on, replaced as there are new ones
unfoldable pub replaced : ℕ → List ℕ → List ℕ → List ℕ
replaced o new l = take o l ++ (new ++ drop (o + length new) l)
