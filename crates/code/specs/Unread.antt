-- The instruction that a code begins with, or why there is none.
use Rattle.std.specs.Prelude.{Result}
use Rattle.answer.specs.declared.Why.{Why}
use Rattle.answer.specs.declared.Why.TheVariants as why
use Rattle.code.specs.declared.Instruction.{Instruction}
use Rattle.code.specs.declared.Unread.{Unread}
use Rattle.code.specs.declared.Unread.TheVariants.{Short, Unlisted}

abbrev pub Decoded : Type 0
Decoded = Result Instruction Unread

-- the reason of the refusal: 3 where the bytes are not the whole of a listed instruction, 4 where they begin none
abbrev pub why_of : Unread → Why
why_of Short = why.NoCode
why_of Unlisted = why.Unlisted
