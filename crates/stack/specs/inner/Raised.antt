-- The end of the stack after a pop, as the function's promise says it.
use Rattle.std.specs.Prelude.{ℕ, ◌≡◌, List, Ok, Err}
use Rattle.little.specs.declared.Size.TheVariants.{Long}
use Rattle.memory.specs.Access.{Loaded}
use Rattle.state.specs.{declared.Bank.Bank, declared.State.State, State.banked, Register.register_at}
use Rattle.operand.specs.Round.{plus}
use Rattle.stack.specs.Stack.{with_stack}

-- where the load is done the end is n bytes above, and where it is not the registers stay
abbrev pub RaisedBy : Loaded → List ℕ → List ℕ → Bank → ℕ → Type 0
RaisedBy (Ok v) old new bank n = (s : State) → banked s new bank ≡ with_stack (banked s old bank) (plus 32 (register_at old bank Long 7) n)
RaisedBy (Err byte) old new bank n = new ≡ old
