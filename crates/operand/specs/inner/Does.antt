-- What a function within a step does, as its promise says it.
use Rattle.std.specs.Prelude.{ℕ, ◌≡◌, List}
use Rattle.state.specs.declared.State.{State}
use Rattle.operand.specs.Try.{Try, after, leaves}
use Rattle.answer.specs.Number.{Answer}

-- what a function does on a state and RAM: it answers a, and leaves t and m
abbrev pub Does : (State → List ℕ → Try) → State → List ℕ → Answer → State → List ℕ → Type 0
Does tried s ram a t m = after a t m ≡ leaves s ram (tried s ram)
