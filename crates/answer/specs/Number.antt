-- What a caller is told: the numbers of refusal, in order of check, and the address that goes with 5 and 6.
use Rattle.std.specs.Prelude.{ℕ, Result, Ok, Err}
use Rattle.answer.specs.declared.Why.{Why}
use Rattle.answer.specs.declared.Why.TheVariants.{TooMany, TooLong, Invalid, BadRequest, NoOldForm, NoCode, Unlisted, Undefined, Missing, ToRom}

-- how a call ended: it is done, or refused for a reason
abbrev pub Answer : Type 0
Answer = Result Unit Why

-- the number of a reason, and its address; 0 where a reason has none
abbrev pub why_told : Why → ℕ × ℕ
why_told TooMany = (7, 0)
why_told TooLong = (1, 0)
why_told Invalid = (2, 0)
why_told BadRequest = (9, 0)
why_told NoOldForm = (10, 0)
why_told NoCode = (3, 0)
why_told Unlisted = (4, 0)
why_told Undefined = (8, 0)
why_told (Missing a) = (5, a)
why_told (ToRom a) = (6, a)

-- the number of an answer, and its address; both are 0 where it is done
abbrev pub told_of : Answer → ℕ × ℕ
told_of (Ok _) = (0, 0)
told_of (Err w) = why_told w

-- the number of a reason, and its address; of an answer the same
abbrev pub why_number : Why → ℕ
why_number w = (why_told w).0

abbrev pub why_at : Why → ℕ
why_at w = (why_told w).1

abbrev pub number_of : Answer → ℕ
number_of a = (told_of a).0

abbrev pub at_of : Answer → ℕ
at_of a = (told_of a).1

-- the first refusal of two answers; done where neither is one
abbrev pub first_refusal : Answer → Answer → Answer
first_refusal (Ok _) b = b
first_refusal (Err w) b = Err w

-- this where it is done, else the other
abbrev pub where_done : {X : Type 0} → Answer → X → X → X
where_done (Ok _) new old = new
where_done (Err w) new old = old
