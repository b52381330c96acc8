-- An operand of six bytes, which the code handles as its low two and its high four.
use Rattle.std.specs.Prelude.{ℕ, ◌+◌, ◌*◌, ◌^◌, ◌<◌, Result, Ok, Err}
use Rattle.answer.specs.declared.MissingByte.{MissingByte}
use Rattle.memory.specs.Access.{Loaded}

-- the number of both
abbrev pub six_from : ℕ → ℕ → ℕ
six_from low high = low + 2 ^ 16 * high

-- what was loaded, as one value
abbrev pub six_as : Result (ℕ × ℕ) MissingByte → Loaded
six_as (Ok both) = Ok (six_from both.0 both.1)
six_as (Err byte) = Err byte

-- the low one has two bytes, so that the two can be told apart in it
abbrev pub SixFits : Result (ℕ × ℕ) MissingByte → Type 0
SixFits (Ok both) = both.0 < 2 ^ 16
SixFits (Err byte) = Unit {0}
