-- The status register SR.
use Rattle.std.specs.Prelude.{ℕ, ◌+◌, ◌*◌, ◌/◌, ◌%◌, ◌^◌, Bool, ◌&&◌, eqb}
use Rattle.state.specs.declared.{Bank.Bank, Level.Level, State.State}
use Rattle.state.specs.State.{f_of}

-- F below, without its marks, the bank in bits 8 to 10, bit 11 one, the level in bits 12 to 14, bit 15 one
abbrev pub sr_from : ℕ → Bank → Level → ℕ
sr_from flags bank level = f_of flags + 2 ^ 8 * bank.0 + 2 ^ 11 + 2 ^ 12 * level.0 + 2 ^ 15

abbrev pub sr_of : State → ℕ
sr_of s = sr_from s.flags s.bank s.level

-- and back
abbrev pub f_in : ℕ → ℕ
f_in sr = sr % 2 ^ 8

-- the three bits 8 to 10; bit 10 makes the bank 4 or more, which no valid state has
abbrev pub bank_in : ℕ → Bank
bank_in sr = record { 0 = sr / 2 ^ 8 % 2 ^ 3 }

-- the three bits 12 to 14
abbrev pub level_in : ℕ → Level
level_in sr = record { 0 = sr / 2 ^ 12 % 2 ^ 3 }

-- bits 11 and 15 are one
abbrev pub ones_in : ℕ → Bool
ones_in sr = eqb (sr / 2 ^ 11 % 2) 1 && eqb (sr / 2 ^ 15 % 2) 1
