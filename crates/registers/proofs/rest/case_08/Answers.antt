use mathlib.Core.Path.{◌∙◌}
use native.Mathlib.Omega.{arith}
use Rattle.code.specs.Said.{judge}
use Rattle.code.proofs.Judge.{bytes_bounds, number_whole, number_short}
use Rattle.code.proofs.FeedRows.{with_constant_lem, no_constant}
use Rattle.number.proofs.Laws.{as_many}
use Rattle.registers.proofs.rest.case_08.Goals as goal

pub returns-then-c-gt11 : goal.returns-then-c-gt11
unfolding judge
returns-then-c-gt11 c = λ o e. rw (no_constant _ o _ c.requires.1 c.if-c-gt11.true)

pub overflow_add-result : goal.overflow_add-result
overflow_add-result c = omega (arith, bytes_bounds c.args.size _ c.bytes-n.ensures)

pub returns-in-Some : goal.returns-in-Some
returns-in-Some c = λ o e.
    let a = c.args in
    let n = bytes_bounds a.size _ c.bytes-n.ensures in
    rw (with_constant_lem _ o _ c.requires.1 c.if-c-gt11.false, e ∙ c.if-half.true, ← c.bytes-n.ensures)
    (number_whole _ _ _ _ _ _ _ _ _ (as_many _ _ _ n c.number.ensures) c.in-Some.is (rw c.scale_of.ensures))

pub returns-in-None : goal.returns-in-None
returns-in-None c = λ o e.
    let a = c.args in
    let n = bytes_bounds a.size _ c.bytes-n.ensures in
    rw (with_constant_lem _ o _ c.requires.1 c.if-c-gt11.false, e ∙ c.if-half.true, ← c.bytes-n.ensures)
    (number_short _ _ _ _ _ (as_many _ _ _ n c.number.ensures) c.in-None.is)

pub returns : goal.returns
unfolding judge
returns c = λ o e. rw (with_constant_lem _ o _ c.requires.1 c.if-c-gt11.false, e ∙ c.if-half.false)
