-- The three sizes of an operand.
use Rattle.std.specs.Prelude.{ℕ}
use Rattle.little.specs.declared.Size.{Size}
use Rattle.little.specs.declared.Size.TheVariants.{Byte, Word, Long}

-- how many bits an operand of a size has
abbrev pub bits_of : Size → ℕ
bits_of Byte = 8
bits_of Word = 16
bits_of Long = 32

-- how many bytes it has
abbrev pub bytes_of : Size → ℕ
bytes_of Byte = 1
bytes_of Word = 2
bytes_of Long = 4

-- the size of twice as many bytes; there is none above a long
abbrev pub twice_of : Size → Size
twice_of Byte = Word
twice_of Word = Long
twice_of Long = Long
