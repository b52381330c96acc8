-- A list of codes as data: a row has the bytes that it is for, and what each of them says.
use Rattle.std.specs.Prelude.{ℕ, ◌/◌, ◌%◌, List, [], ◌∷◌, Bool, true, false, cond, ◌&&◌, leb, eqb}
use Rattle.little.specs.declared.Size.{Size}
use Rattle.little.specs.declared.Size.TheVariants.{Byte, Word, Long}
use Rattle.code.specs.Said.{Said, unlisted, next}

-- the bytes of a row
pub data Bytes : Type 0 where
  one : ℕ → Bytes  -- this byte
  run : ℕ → ℕ → Bytes  -- from the first to the second
  columns : ℕ → Bytes  -- 8 bytes from here, and again every 16 bytes up to FFH

-- whether the bytes of a row have b among them
abbrev pub has : Bytes → ℕ → Bool
has (one a) b = eqb b a
has (run lo hi) b = leb lo b && leb b hi
has (columns lo) b = leb lo b && leb b 0xFF && eqb (b / 8 % 2) (lo / 8 % 2)

-- a row: some bytes, and what each of them says
pub record Row : Type 0 where
  pub bytes : Bytes
  pub says : ℕ → Said

infix 20 ◌⇒◌
-- a row written out
abbrev pub ◌⇒◌ : Bytes → (ℕ → Said) → Row
b ⇒ f = record { bytes = b; says = f }

-- what the first row that has the byte says, and that it is not listed where none has
unfoldable pub lookup : List Row → ℕ → Said
lookup [] b = unlisted
lookup (r ∷ rs) b = cond (has r.bytes b) (r.says b) (lookup rs b)

-- which sizes some codes have: bytes; words; words and longs; bytes and words
abbrev pub only_byte : Size → Bool
only_byte Byte = true
only_byte Word = false
only_byte Long = false

abbrev pub only_word : Size → Bool
only_word Byte = false
only_word Word = true
only_word Long = false

abbrev pub no_byte : Size → Bool
no_byte Byte = false
no_byte Word = true
no_byte Long = true

abbrev pub no_long : Size → Bool
no_long Byte = true
no_long Word = true
no_long Long = false

-- what is listed only where a test is so, as for some sizes
abbrev pub only : Bool → Said → Said
only true d = d
only false d = unlisted

-- the byte that follows stands in these rows
abbrev pub by_rows : List Row → Said
by_rows rows = next (lookup rows)
