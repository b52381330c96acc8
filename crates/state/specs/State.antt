-- The machine's state.
use Rattle.std.specs.Prelude.{ℕ, ◌/◌, ◌%◌, ◌^◌, List, Bool, ◌&&◌, ◌||◌, get_or, set, replicate, ltb, eqb}
use Rattle.state.specs.declared.{Bank.Bank, State.State}

-- all zero
unfoldable pub zero_state : State
zero_state = record { registers = replicate 20 0; counter = 0; bank = record { 0 = 0 }; level = record { 0 = 0 }; flags = 0; spare = 0; nesting = 0 }

-- after reset: XSP, the last of the twenty, 100H; bank 0; level 7; other registers and both F zero, with no mark;
-- the nesting count 0; the counter from the low 24 bits of the vector
unfoldable pub reset_state : ℕ → State
reset_state vector =
    let registers : List ℕ = set (replicate 20 0) 19 0x100 in
    record { registers = registers; counter = vector % 2 ^ 24; bank = record { 0 = 0 }; level = record { 0 = 7 }; flags = 0; spare = 0; nesting = 0 }

-- A set of flags is one number: F, and above it the marks of those that nobody defined, bit 8 for H, whose own bit is 4, and bit 9
-- for V, whose own bit is 2
abbrev pub f_of : ℕ → ℕ
f_of flags = flags % 2 ^ 8

abbrev pub marks_of : ℕ → ℕ
marks_of flags = flags / 2 ^ 8

-- bit i is zero
abbrev pub clear : ℕ → ℕ → Bool
clear i x = eqb (x / 2 ^ i % 2) 0

-- bits 5 and 3 zero; no mark but these two; and a marked flag's own bit zero
abbrev pub flags_valid : ℕ → Bool
flags_valid f = clear 5 f && (clear 3 f && (ltb f (2 ^ 10) && ((clear 8 f || clear 4 f) && (clear 9 f || clear 2 f))))

-- counter below 2^24, bank 0 to 3, level 0 to 7, both sets of flags as above
unfoldable pub valid_of : State → Bool
valid_of s = ltb s.counter (2 ^ 24) && (ltb s.bank.0 4 && (ltb s.level.0 8 && (flags_valid s.flags && flags_valid s.spare)))

-- the long register at place i of the twenty
unfoldable pub long_of : State → ℕ → ℕ
long_of s i = get_or s.registers i 0

-- ---- a state whose parts lie apart: s with what a function is lent in the place of its own; the rest is as it is in s
-- what most instructions touch
abbrev pub lent : State → List ℕ → ℕ → ℕ → ℕ → ℕ → State
lent s registers counter bank flags spare =
    record { registers = registers; counter = counter; bank = record { 0 = bank }; flags = flags; spare = spare; level = s.level; nesting = s.nesting }

-- the interrupt level and the nesting count
abbrev pub nested : State → ℕ → ℕ → State
nested s level nesting =
    record { registers = s.registers; counter = s.counter; bank = s.bank; flags = s.flags; spare = s.spare; level = record { 0 = level }; nesting = nesting }

-- the registers and the bank
abbrev pub banked : State → List ℕ → Bank → State
banked s registers bank = lent s registers s.counter bank.0 s.flags s.spare

-- ---- a state with one thing changed
unfoldable pub with_long : State → ℕ → ℕ → State
with_long s i v = banked s (set s.registers i v) s.bank

-- the counter is taken modulo 2^24
unfoldable pub with_counter : State → ℕ → State
with_counter s c = lent s s.registers (c % 2 ^ 24) s.bank.0 s.flags s.spare

-- the bank number is taken modulo 4
unfoldable pub with_bank : State → ℕ → State
with_bank s b = banked s s.registers (record { 0 = b % 4 })

-- the level is taken modulo 8
unfoldable pub with_level : State → ℕ → State
with_level s l = nested s (l % 8) s.nesting

-- the nesting count is taken modulo 2^16
unfoldable pub with_nesting : State → ℕ → State
with_nesting s n = nested s s.level.0 (n % 2 ^ 16)

-- F and F', each with its marks
unfoldable pub with_both_flags : State → ℕ → ℕ → State
with_both_flags s f f' = lent s s.registers s.counter s.bank.0 f f'

-- F alone, with its marks
unfoldable pub with_flags : State → ℕ → State
unfolding with_both_flags
with_flags s f = with_both_flags s f s.spare
