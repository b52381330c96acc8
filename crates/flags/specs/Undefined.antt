-- Which flags the book leaves undefined. H and V alone can be; each has a mark that says so. The marks of a set of flags are one
-- number: 1 for H, 2 for V, 3 for both.
use Rattle.std.specs.Prelude.{ℕ, ◌/◌, ◌%◌, Bool, cond, ltb, eqb}

-- no flag, H, V
abbrev pub nothing : ℕ
nothing = 0

abbrev pub mark_h : ℕ
mark_h = 1

abbrev pub mark_v : ℕ
mark_v = 2

-- the ways in which an instruction gives H or V a value of its own: ADD ADC SUB SBC CP, and INC DEC of a byte, of k bits; AND OR XOR and
-- the shifts of k bits, whose V is parity; RCF and SCF; CCF and ZCF. LDI to CPDR define both (flags/Flag)
pub data Made : Type 0 where
  by_sum : ℕ → Made
  by_parity : ℕ → Made
  by_rcf_scf : Made
  by_ccf_zcf : Made

-- what 000 prints as undefined: of long sums and differences H, of long logic and shifts V, of CCF and ZCF H
abbrev pub undefined_of : Made → ℕ
undefined_of (by_sum k) = cond (ltb k 32) nothing mark_h
undefined_of (by_parity k) = cond (ltb k 32) nothing mark_v
undefined_of by_rcf_scf = nothing
undefined_of by_ccf_zcf = mark_h

-- whether H is among the marked, and V
abbrev pub marks_h : ℕ → Bool
marks_h marks = eqb (marks % 2) 1

abbrev pub marks_v : ℕ → Bool
marks_v marks = eqb (marks / 2 % 2) 1
