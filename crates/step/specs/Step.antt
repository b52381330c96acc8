-- One step: its checks in order, then the instruction at the counter.
use Rattle.std.specs.Prelude.{ℕ, ◌^◌, ◌≡◌, List, Bool, cond, ◌||◌, length, ltb}
use Rattle.answer.specs.declared.Why.TheVariants.{TooLong, Invalid}
use Rattle.state.specs.{declared.State.State, State.valid_of}
use Rattle.turn.specs.Once.{once_of}
use Rattle.step.specs.{declared.Stepped.Stepped, Result.outcome}
use Rattle.operand.specs.Try.{Try, no, Outcome, leaves}

-- 1: RAM or ROM is longer than 65,536 bytes
abbrev pub too_long : ℕ → ℕ → Bool
too_long ram_length rom_length = ltb (2 ^ 16) ram_length || ltb (2 ^ 16) rom_length

-- 1, then 2: the state is not valid; then what is tried
unfoldable pub guarded : State → List ℕ → List ℕ → Try → Try
guarded s ram rom t = cond (too_long (length ram) (length rom)) (no TooLong) (cond (valid_of s) t (no Invalid))

-- a step that is tried, with its checks
unfoldable pub try_of : State → List ℕ → List ℕ → Try
try_of s ram rom = guarded s ram rom (once_of s ram rom)

-- what a step leaves
unfoldable pub step_of : State → List ℕ → List ℕ → Outcome
step_of s ram rom = leaves s ram (try_of s ram rom)

-- what the call promises of its result r, and of RAM m after it
abbrev pub StepMeets : State → List ℕ → List ℕ → Stepped → List ℕ → Type 0
StepMeets s ram rom r m = outcome r m ≡ step_of s ram rom
