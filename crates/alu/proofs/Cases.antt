-- Each case of the table has the value and the F that stand there.
use lib.Dec.{T}
use Rattle.little.specs.Every.{every}
use Rattle.flags.specs.Flag.{byte_of, packed_of, flags_of}
use Rattle.flags.specs.Condition.{basic, holds_of}
use Rattle.alu.specs.Parity.{ones_of, even_ones}
use Rattle.flags.specs.Sums.{result_of, sum_of, difference_of}
use Rattle.alu.specs.Logic.{plain, and_of, or_of, xor_of}
use Rattle.alu.specs.Operation.{operated}
use Rattle.alu.specs.Shift.{places_of, shift_of, shift_by}
use Rattle.alu.specs.Count.{inc_of, dec_of}
use Rattle.alu.specs.Extend.{extz_of, exts_of}
use Rattle.alu.specs.Cases.{holding, alu_cases}

pub cases_hold : T (every (λ b. b) alu_cases)
unfolding alu_cases every holding basic holds_of operated places_of byte_of packed_of flags_of ones_of even_ones result_of sum_of difference_of plain and_of or_of xor_of shift_of shift_by inc_of dec_of extz_of exts_of
cases_hold = tt
