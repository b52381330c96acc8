-- Reset.
use Rattle.std.specs.Prelude.{ℕ, ◌≡◌, List, cond, length, Ok, Err}
use Rattle.answer.specs.declared.{Why.TheVariants.TooLong, Why.TheVariants.Missing}
use Rattle.little.specs.declared.Size.TheVariants.{Long}
use Rattle.memory.specs.Access.{load_of}
use Rattle.state.specs.State.{zero_state, reset_state}
use Rattle.step.specs.{declared.Stepped.Stepped, Result.refused_with, Step.too_long}
use Rattle.memory.specs.Access.{Loaded}

-- from the vector that was loaded, or not: a refusal returns the all-zero state
abbrev pub reset_from : Loaded → Stepped
reset_from (Ok v) = record { state = reset_state v; answer = Ok tt }
reset_from (Err byte) = refused_with zero_state (Missing byte.0)

-- 1; then the vector, the four bytes at FFFF00H: 5 where they are missing, which is where ROM is shorter than 256 bytes
unfoldable pub reset_of : List ℕ → List ℕ → Stepped
reset_of ram rom = cond (too_long (length ram) (length rom)) (refused_with zero_state TooLong) (reset_from (load_of ram rom 0xFFFF00 Long))

-- what the call promises of its result r
abbrev pub ResetMeets : List ℕ → List ℕ → Stepped → Type 0
ResetMeets ram rom r = r ≡ reset_of ram rom
