-- Where an instruction leaves the counter.
use Rattle.std.specs.Prelude.{ℕ, ◌+◌, ◌%◌, ◌^◌, Ok, Err}
use Rattle.answer.specs.Number.{Answer}

-- where an answer leaves the counter: a refusal `here`, where the instruction stands
abbrev pub back_of : Answer → ℕ → ℕ → ℕ
back_of (Ok _) here counter = counter
back_of (Err w) here counter = here

-- and where one of n bytes leaves it that does not go anywhere: past it, or at it
abbrev pub on_of : Answer → ℕ → ℕ → ℕ
on_of (Ok _) n counter = (counter + n) % 2 ^ 24
on_of (Err w) n counter = counter
