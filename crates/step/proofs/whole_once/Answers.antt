use Rattle.turn.proofs.ManySteps.{one_of}
use Rattle.step.proofs.whole_once.Goals as goal

pub returns : goal.returns
returns c =
    let a = c.args in
    let o = c.many-ran in
    one_of a.s a.ram.now a.rom.now o.result o.new.ram o.ensures
