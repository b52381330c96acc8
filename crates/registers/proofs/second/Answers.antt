use mathlib.Core.Path.{sym, ap, ◌∙◌}
use native.Mathlib.Omega.{arith}
use Rattle.code.specs.Said.{Said, judge}
use Rattle.code.specs.Rows.{lookup}
use Rattle.code.specs.Registers.{feed_rows}
use Rattle.code.proofs.Judge.{next_there}
use Rattle.code.proofs.RegisterRows.{inc, dec, load, into, compute, the_rest}
use Rattle.registers.proofs.second.Goals as goal

pub returns-in-2 : goal.returns-in-2
returns-in-2 c = λ o. c.case_10.ensures o _

pub returns-in-12 : goal.returns-in-12
unfolding judge
returns-in-12 c = λ o. rw (inc _ _ _ c.in-12.is)

pub returns-in-13 : goal.returns-in-13
unfolding judge
returns-in-13 c = λ o. rw (dec _ _ _ c.in-13.is)

pub returns-in-17 : goal.returns-in-17
unfolding judge
returns-in-17 c = λ o. rw (load _ _ _ c.in-17.is)

pub returns-in-19 : goal.returns-in-19
unfolding judge
returns-in-19 c = λ o. rw (into _ _ _ c.in-19.is)

pub returns-in-16 : goal.returns-in-16
unfolding judge
returns-in-16 c = λ o. rw (compute _ _ _ c.in-16.is, c.arith_of.ensures)

pub returns-in_default : goal.returns-in_default
returns-in_default c = λ o.
    let a = c.args in
    let p = c.requires in
    sym (next_there (lookup (feed_rows a.size o)) a.code.now 1 _ (omega arith)
    (ap (λ (x : Said). judge x a.code.now 2) (the_rest a.size o a.c (omega arith) c.in_default.in_default-own.rest ∙ ap (lookup (feed_rows a.size o)) p.1)))
