use mathlib.Core.Path.{◌∙◌}
use Rattle.alu.proofs.Results.{plain_made}
use Rattle.alu.proofs.Shifts.{shift_made}
use Rattle.alu.proofs.shifter.shift_by.Goals as goal

pub returns : goal.returns
returns c = c.judged.ensures
    ∙ plain_made _ _ _ _ _ _ c.parity-v.ensures c.marks.ensures
    ∙ shift_made
    c.args.kind
    c.args.size
    c.args.a
    _
    c.low-x.result
    c.top-weight.result
    c.comes_in-above.result
    c.places-t.result
    c.goes_left.result
    c.low-x.ensures.value
    c.top-weight.ensures.value
    c.comes_in-above.ensures.0
    c.goes_left.ensures
    (simp (← c.places_of.ensures) c.places-t.ensures)
