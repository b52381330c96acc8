-- A step that is tried, and what a call leaves.
use Rattle.std.specs.Prelude.{ℕ, List, Ok, Err}
use Rattle.answer.specs.declared.{Why.Why, Why.TheVariants.Missing}
use Rattle.state.specs.declared.State.{State}
use Rattle.answer.specs.Number.{Answer}
use Rattle.memory.specs.Access.{Loaded}

-- it is done, with the state and the bytes of RAM after it, or it is refused
pub data Try : Type 0 where
  did : State → List ℕ → Try
  no : Why → Try

-- what a call leaves: the state, the bytes of RAM, and its answer
pub record Outcome : Type 0 where
  pub state : State
  pub ram : List ℕ
  pub answer : Answer

-- an answer, a state and RAM, as what a call leaves
abbrev pub after : Answer → State → List ℕ → Outcome
after a s ram = record { state = s; ram = ram; answer = a }

-- what a tried step leaves: a refused one the state and the RAM that were given
abbrev pub leaves : State → List ℕ → Try → Outcome
leaves s ram (did t m) = after (Ok tt) t m
leaves s ram (no w) = after (Err w) s ram

-- a tried step, and then a change of the state where it is done
abbrev pub and_then : Try → (State → State) → Try
and_then (did s ram) f = did (f s) ram
and_then (no w) f = no w

-- what is tried with a value that was loaded; 5 where it is missing
abbrev pub with_loaded : Loaded → (ℕ → Try) → Try
with_loaded (Ok v) f = f v
with_loaded (Err byte) f = no (Missing byte.0)
