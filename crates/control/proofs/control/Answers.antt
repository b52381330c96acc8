use Rattle.std.proofs.Common.{refl, ◌∙◌}
use Rattle.state.specs.inner.Lent.{controlled}
use Rattle.control.specs.Control.{control_of}
use Rattle.control.proofs.control.Goals as goal

pub returns-in-Jr : goal.returns-in-Jr
unfolding control_of
returns-in-Jr c rest ram =
    let a = c.args in
    c.jump.ensures (controlled rest a.counter.now a.bank.now a.level.now a.flags.now a.spare.now) ram ∙ rw c.in-Jr.is refl

pub returns-in-Jrl : goal.returns-in-Jrl
unfolding control_of
returns-in-Jrl c rest ram =
    let a = c.args in
    c.jump-in-Jrl.ensures (controlled rest a.counter.now a.bank.now a.level.now a.flags.now a.spare.now) ram ∙ rw c.in-Jrl.is refl
