-- Each case of the table leads to the pointer that stands there, and each number is allowed or not as it says.
use lib.Dec.{T}
use Rattle.feed.specs.Cycle.{minc_of, mdec_of, is_power, is_table}
use Rattle.feed.specs.TableCases.{table_cases}
use Rattle.little.specs.Every.{every}

pub table_cases_hold : T (every (λ b. b) table_cases)
unfolding table_cases every minc_of mdec_of is_power is_table
table_cases_hold = tt
