use native.Mathlib.Omega.{arith}
use Rattle.code.specs.Said.{judge}
use Rattle.code.proofs.FeedRows.{no_feed_below, no_feed_above}
use Rattle.registers.proofs.rest.second.Goals as goal

pub case_40-requires : goal.case_40-requires
case_40-requires c = (omega arith, omega arith)

pub returns-in-7 : goal.returns-in-7
returns-in-7 c = λ o e. c.case_38.ensures o

pub returns-in-8 : goal.returns-in-8
returns-in-8 c = λ o e. c.case_40.ensures o _

pub returns-in_default : goal.returns-in_default
unfolding judge
returns-in_default c = λ o e. let a = c.args in rw (no_feed_below a.size o a.c (omega arith) c.in_default.in_default-own.rest)

pub returns-in_default-2 : goal.returns-in_default-2
unfolding judge
returns-in_default-2 c = λ o e. let a = c.args in rw (no_feed_above a.size o a.c (omega arith) (omega arith))
