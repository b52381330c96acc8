-- Many steps.
use Rattle.std.specs.Prelude.{ℕ, ◌≡◌, List, cond, ltb, Err}
use Rattle.answer.specs.declared.Why.TheVariants.{TooMany}
use Rattle.state.specs.declared.State.{State}
use Rattle.operand.specs.Try.{did, no}
use Rattle.turn.specs.{declared.Ran.Ran, Many.Result, Many.result_with, Many.ends, Many.many_of}
use Rattle.step.specs.Step.{guarded}

-- the most steps that a run may be asked for
abbrev pub most_steps : ℕ
most_steps = 1000000

-- a run checks 7, 1 and 2 even for 0 steps, and then does its steps; that each of them passes its own checks is RunIsSteps (run/Statements)
unfoldable pub run_of : ℕ → State → List ℕ → List ℕ → Result
run_of n s ram rom =
    cond (ltb most_steps n) (ends 0 s ram (Err TooMany))
    (elim (guarded s ram rom (did s ram)) [
      | did t m ↦ many_of n 0 t m rom
      | no w ↦ ends 0 s ram (Err w)
    ])

-- what the call promises of its result r, and of RAM m after it
abbrev pub RunMeets : ℕ → State → List ℕ → List ℕ → Ran → List ℕ → Type 0
RunMeets n s ram rom r m = result_with r m ≡ run_of n s ram rom

-- a run of n steps from here leaves r
abbrev pub RunLeaves : State → List ℕ → List ℕ → ℕ → Result → Type 0
RunLeaves s ram rom n r = run_of n s ram rom ≡ r
