-- Many steps of a state, whatever state it is, one after the other.
use Rattle.std.specs.Prelude.{ℕ, zero, suc, ◌+◌, List, Ok, Err}
use Rattle.state.specs.declared.State.{State}
use Rattle.operand.specs.Try.{did, no}
use Rattle.turn.specs.{declared.Ran.Ran, Once.once_of}
use Rattle.answer.specs.Number.{Answer}

-- what they leave: the state so far, the bytes of RAM, the steps done, and the answer
pub record Result : Type 0 where
  pub state : State
  pub ram : List ℕ
  pub done : ℕ
  pub answer : Answer

-- a function's result, with what RAM holds after it
abbrev pub result_with : Ran → List ℕ → Result
result_with r ram = record { state = r.state; ram = ram; done = r.done; answer = r.answer }

-- what a function answers where they end after d steps
abbrev pub stopped : State → ℕ → Answer → Ran
stopped s d a = record { state = s; done = d; answer = a }

-- they end after d steps
abbrev pub ends : ℕ → State → List ℕ → Answer → Result
ends d s ram a = record { state = s; ram = ram; done = d; answer = a }

-- d steps are done and n are left: all of them, or those before the first one refused
unfoldable pub many_of : ℕ → ℕ → State → List ℕ → List ℕ → Result
many_of zero d s ram rom = ends d s ram (Ok tt)
many_of (suc n) d s ram rom =
    elim (once_of s ram rom) [
      | did t m ↦ many_of n (d + 1) t m rom
      | no w ↦ ends d s ram (Err w)
    ]
