-- A state whose parts lie apart, as the functions within a step are lent some of them.
use Rattle.std.specs.Prelude.{ℕ, List}
use Rattle.state.specs.{declared.Bank.Bank, declared.State.State, State.lent, State.nested}

-- the registers, the bank and F
abbrev pub banked_with : State → List ℕ → Bank → ℕ → State
banked_with s registers bank flags = lent s registers s.counter bank.0 flags s.spare

-- the registers, the bank and the counter
abbrev pub banked_at : State → List ℕ → Bank → ℕ → State
banked_at s registers bank counter = lent s registers counter bank.0 s.flags s.spare

-- the registers, the bank, the counter and F
abbrev pub banked_at_with : State → List ℕ → Bank → ℕ → ℕ → State
banked_at_with s registers bank counter flags = lent s registers counter bank.0 flags s.spare

-- all but the registers and the nesting count
abbrev pub controlled : State → ℕ → ℕ → ℕ → ℕ → ℕ → State
controlled s counter bank level flags spare = lent (nested s level s.nesting) s.registers counter bank flags spare

-- what SR is made of: the bank, the level and F
abbrev pub ruled : State → ℕ → ℕ → ℕ → State
ruled s bank level flags = lent (nested s level s.nesting) s.registers s.counter bank flags s.spare

-- the same and the registers
abbrev pub ruled_with : State → List ℕ → ℕ → ℕ → ℕ → State
ruled_with s registers bank level flags = lent (nested s level s.nesting) registers s.counter bank flags s.spare

-- all but F'
abbrev pub interrupted : State → List ℕ → ℕ → ℕ → ℕ → ℕ → ℕ → State
interrupted s registers counter bank level flags nesting = lent (nested s level nesting) registers counter bank flags s.spare

-- the state of all these parts: a turn is lent the whole of it
abbrev pub all_of : List ℕ → ℕ → ℕ → ℕ → ℕ → ℕ → ℕ → State
all_of registers counter bank level flags spare nesting =
    record { registers = registers; counter = counter; bank = record { 0 = bank }; level = record { 0 = level }; flags = flags; spare = spare; nesting = nesting }

-- the counter and F
abbrev pub flagged_at : State → ℕ → ℕ → State
flagged_at s counter flags = lent s s.registers counter s.bank.0 flags s.spare

-- the counter alone, not taken modulo 2^24
abbrev pub standing_at : State → ℕ → State
standing_at s counter = lent s s.registers counter s.bank.0 s.flags s.spare
