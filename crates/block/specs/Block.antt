-- Copies and compares: one round, and whether a repeating form goes on after it.
use Rattle.std.specs.Prelude.{ℕ, List, Bool, false, cond, not, ◌&&◌, eqb}
use Rattle.little.specs.{declared.Size.Size, Width.bits_of, Width.bytes_of}
use Rattle.little.specs.declared.Size.TheVariants.{Byte, Word, Long}
use Rattle.flags.specs.{Flag.copied_of, Flag.compared_of, Sums.difference_of}
use Rattle.code.specs.declared.Form.{Form}
use Rattle.memory.specs.Access.{load_of}
use Rattle.state.specs.{declared.Bank.Bank, declared.State.State, State.with_counter, Register.register_at, Register.get_register, Register.set_register}
use Rattle.operand.specs.{Try.Try, Try.did, Try.with_loaded, Operand.pointer_of, Operand.storing, Round.less, Round.plus, Flag.flags_in, Flag.flagged}

-- BC, the word register of code 1
abbrev pub count_in : State → ℕ
count_in s = get_register s Word 1

-- BC is not 0
abbrev pub more_in : State → Bool
more_in s = not (eqb (count_in s) 0)

-- BC less one, round at its width
unfoldable pub counted : State → State
counted s = set_register s Word 1 (less 16 (count_in s) 1)

-- a pointer moved by the element's size, up or down, round at its width
abbrev pub stepped_of : Form → ℕ → ℕ
stepped_of f x = cond f.up (plus 32 x (bytes_of f.size)) (less 32 x (bytes_of f.size))

unfoldable pub moved : Form → ℕ → State → State
moved f r s = set_register s Long r (stepped_of f (get_register s Long r))

-- the registers and flags after a copy's round: both pointers, BC, and the flags of LDI and LDD
unfoldable pub copied : Form → State → State
copied f s =
    let t = counted (moved f f.to (moved f f.from s)) in
    flagged t (copied_of (flags_in s) (more_in t))

-- A of a byte's compare, WA of a word's
abbrev pub accumulator_in : List ℕ → Bank → Size → ℕ
accumulator_in registers bank Byte = register_at registers bank Byte 1
accumulator_in registers bank Word = register_at registers bank Word 0
accumulator_in registers bank Long = register_at registers bank Long 0

abbrev pub accumulator : State → Size → ℕ
accumulator s z = accumulator_in s.registers s.bank z

-- the registers and flags after a compare's round with the element v: the pointer, BC, and the flags of CPI and CPD
unfoldable pub compared : Form → ℕ → State → State
compared f v s =
    let t = counted (moved f f.from s) in
    flagged t (compared_of (flags_in s) (difference_of (bits_of f.size) (accumulator s f.size) v false).flags (more_in t))

-- one round, on registers, flags and memory: a copy loads, then stores; a compare loads
unfoldable pub round_of : Form → State → List ℕ → List ℕ → Try
round_of f s ram rom =
    with_loaded (load_of ram rom (pointer_of s f.from) f.size)
    (λ v.
    cond f.copies
    (storing (copied f s) ram rom (pointer_of s f.to) f.size v)
    (did (compared f v s) ram))

-- the round was equal: a compare's, with Z set
abbrev pub equal_in : Form → State → Bool
equal_in f s = not f.copies && (flags_in s).z

-- a repeating form goes on until BC is 0 after a round or, for a compare, the round was equal
unfoldable pub goes_on : Form → State → Bool
goes_on f s = f.again && (more_in s && not (equal_in f s))

-- the counter of a form at address `at` that goes on is there again; else it is past it already
unfoldable pub ends_at : Form → ℕ → State → State
ends_at f at s = cond (goes_on f s) (with_counter s at) s
