use mathlib.Core.Path.{◌∙◌}
use Rattle.little.specs.Width.{bits_of}
use Rattle.feed.proofs.Wraps.{off_long, mdec_end, mdec_on}
use Rattle.feed.proofs.cycle.mdec.Goals as goal

pub returns-then-x-end-eq0 : goal.returns-then-x-end-eq0
returns-then-x-end-eq0 c =
    let a = c.args in
    c.low.ensures.value ∙ mdec_end (bits_of a.size) a.step a.last a.a _ c.low-x.ensures.value c.if-x-end-eq0.true

pub returns : goal.returns
returns c =
    let a = c.args in
    c.low-2.ensures.value
    ∙ off_long a.size c.low-x.result a.step c.requires.1
    ∙ mdec_on (bits_of a.size) a.step a.last a.a _ c.low-x.ensures.value c.if-x-end-eq0.false
