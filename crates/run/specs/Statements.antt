-- What is proved of a run, beside what the call promises and demand 3. Each statement is proved in proofs/Joins.antt.
use Rattle.std.specs.Prelude.{ℕ, ◌+◌, ◌<◌, ◌≤◌, ◌≡◌, List, Ok, Err}
use Rattle.answer.specs.declared.Why.{Why}
use Rattle.state.specs.declared.State.{State}
use Rattle.operand.specs.Try.{after, did, no}
use Rattle.turn.specs.{declared.Ran.Ran, Many.Result, Many.ends}
use Rattle.step.specs.{Step.try_of, Step.step_of}
use Rattle.run.specs.Run.{most_steps, run_of, RunMeets}

-- a run with n steps before it
abbrev pub later : ℕ → Result → Result
later n r = ends (n + r.done) r.state r.ram r.answer

-- all below is of any state and the bytes of any RAM and ROM
module _ (s : State) (ram rom : List ℕ) where
  -- any two results that meet what the call promises are the same, and so is RAM after them
  abbrev pub RunSettled : Type 0
  RunSettled = (n : ℕ) (p q : Ran) (l m : List ℕ) → RunMeets n s ram rom p l → RunMeets n s ram rom q m → (p ≡ q) × (l ≡ m)

  -- a run is its first step, with that step's own checks, and then a run of the others; or it ends where that step is refused
  abbrev pub RunIsSteps : Type 0
  RunIsSteps =
      (n : ℕ) → n < most_steps →
      ((t : State) (m : List ℕ) → try_of s ram rom ≡ did t m → run_of (n + 1) s ram rom ≡ later 1 (run_of n t m rom))
      × ((w : Why) → try_of s ram rom ≡ no w → run_of (n + 1) s ram rom ≡ ends 0 s ram (Err w))

  -- a run of one step leaves what a step leaves
  abbrev pub OneStepRun : Type 0
  OneStepRun = let r = run_of 1 s ram rom in after r.answer r.state r.ram ≡ step_of s ram rom

  -- n steps and then m steps are n plus m steps
  abbrev pub RunsJoin : Type 0
  RunsJoin =
      (n m : ℕ) → n + m ≤ most_steps → (run_of n s ram rom).answer ≡ Ok tt →
      run_of (n + m) s ram rom ≡ later n (run_of m (run_of n s ram rom).state (run_of n s ram rom).ram rom)

  -- a run that was refused is not changed by asking for more
  abbrev pub RunStops : Type 0
  RunStops = (n m : ℕ) (w : Why) → n + m ≤ most_steps → (run_of n s ram rom).answer ≡ Err w → run_of (n + m) s ram rom ≡ run_of n s ram rom

  -- the count is the steps asked for, or those before the first one refused, and the answer is then that step's;
  -- where none was done, RunIsSteps says it
  abbrev pub CountIsTrue : Type 0
  CountIsTrue =
      (n : ℕ) →
      let r = run_of n s ram rom in
      (r.answer ≡ Ok tt → r.done ≡ n)
      × ((w : Why) → 0 < r.done → r.answer ≡ Err w →
      (r.done < n) × (run_of r.done s ram rom ≡ ends r.done r.state r.ram (Ok tt)) × (try_of r.state r.ram rom ≡ no w))
