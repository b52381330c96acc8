-- Code bytes, judged one at a time.
use Rattle.std.specs.Prelude.{ℕ, ◌+◌, List, cond, length, get_or, take, drop, ltb, leb, Some, None, Option, Ok, Err}
use Rattle.little.specs.{declared.Size.Size, Bytes.value_of}
use Rattle.code.specs.declared.{Op.Op, Operand.Operand}
use Rattle.code.specs.Unread.{Decoded}
use Rattle.code.specs.declared.Unread.TheVariants.{Short, Unlisted}

-- what the bytes so far say
pub data Said : Type 0 where
  whole : Op → Size → Operand → Said  -- they are this instruction
  unlisted : Said  -- they begin no listed one
  next : (ℕ → Said) → Said  -- by the byte that follows, what is said then
  number : ℕ → (ℕ → Said) → Said  -- by the number in so many bytes that follow, what is said then

-- the number in n bytes of the code from i on, low byte first, where they are all there
unfoldable pub number_at : List ℕ → ℕ → ℕ → Option ℕ
number_at s i n = cond (leb (i + n) (length s)) (Some (value_of (take n (drop i s)))) None

-- what is made of a number that was found; without it the code is short
abbrev pub with_found : Option ℕ → (ℕ → Decoded) → Decoded
with_found (Some v) k = k v
with_found None k = Err Short

-- a whole instruction from its parts
abbrev pub whole_of : Op → Size → Operand → ℕ → Decoded
whole_of op size operand length = Ok (record { op = op; size = size; operand = operand; length = length })

-- what is made of the code s, of which i bytes have said this
unfoldable pub judge : Said → List ℕ → ℕ → Decoded
judge (whole op size operand) s i = whole_of op size operand i
judge unlisted s i = Err Unlisted
judge (next f) s i = cond (ltb i (length s)) (judge (f (get_or s i 0)) s (i + 1)) (Err Short)
judge (number n f) s i = with_found (number_at s i n) (λ v. judge (f v) s (i + n))
