-- Each case of the table has the value and the F that stand there.
use lib.Dec.{T}
use Rattle.flags.specs.Flag.{byte_of, packed_of, flags_of}
use Rattle.feed.specs.Scale.{mul_of, muls_of, div_of, divs_of}
use Rattle.feed.specs.Cases.{feed_cases}
use Rattle.little.specs.Every.{every}

pub cases_hold : T (every (λ b. b) feed_cases)
unfolding feed_cases every byte_of packed_of flags_of mul_of muls_of div_of divs_of
cases_hold = tt
