-- What stands at the counter, done or refused.
use Rattle.std.specs.Prelude.{ℕ, List}
use Rattle.memory.specs.Access.{code_at}
use Rattle.code.specs.Listed.{decode_of}
use Rattle.state.specs.declared.State.{State}
use Rattle.operand.specs.Try.{Try}
use Rattle.exec.specs.Exec.{done}

-- what is done at the counter of a state, whatever state it is
unfoldable pub once_of : State → List ℕ → List ℕ → Try
once_of s ram rom = done (decode_of (code_at ram rom s.counter)) s ram rom
