-- What undoes what (request K10). Each statement is proved in proofs/Undone.antt.
use Rattle.std.specs.Prelude.{ℕ, ◌<◌, ◌≡◌, List}
use Rattle.state.specs.declared.State.{State}
use Rattle.code.specs.declared.{Control.Control, Control.TheVariants.Incf, Control.TheVariants.Decf, Control.TheVariants.Exf}
use Rattle.operand.specs.Try.{did}
use Rattle.control.specs.Control.{control_of}

-- after the first the second leaves the state and RAM that the first was given; neither asks for its number
abbrev pub Undoes : Control → Control → State → Type 0
Undoes second first s = (n m : ℕ) (ram : List ℕ) → (t : State) × (control_of first n s ram ≡ did t ram) × (control_of second m t ram ≡ did s ram)

-- INCF and DECF undo each other in every bank that there is
abbrev pub BanksUndone : Type 0
BanksUndone = (s : State) → s.bank.0 < 4 → Undoes Decf Incf s × Undoes Incf Decf s

-- EX F,F' undoes itself: both sets of flags are as they were, and their marks
abbrev pub ExchangeUndone : Type 0
ExchangeUndone = (s : State) → Undoes Exf Exf s
