-- What a function answers of a step, and what a call leaves with it.
use Rattle.std.specs.Prelude.{ℕ, List, Ok, Err}
use Rattle.answer.specs.declared.Why.{Why}
use Rattle.state.specs.declared.State.{State}
use Rattle.operand.specs.Try.{Outcome}
use Rattle.step.specs.declared.Stepped.{Stepped}

-- a function's result, with what RAM holds after it
abbrev pub outcome : Stepped → List ℕ → Outcome
outcome r ram = record { state = r.state; ram = ram; answer = r.answer }

-- what a function answers where it is done, and where it is refused
abbrev pub done_with : State → Stepped
done_with s = record { state = s; answer = Ok tt }

abbrev pub refused_with : State → Why → Stepped
refused_with s w = record { state = s; answer = Err w }
