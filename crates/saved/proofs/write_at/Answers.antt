use Rattle.saved.proofs.Numbers.{lent_take}
use Rattle.saved.proofs.write_at.Goals as goal

pub returns : goal.returns
returns c =
    let a = c.args in
    let w = c.write in
    lent_take a.at a.n a.v a.out.now w.new.part c.requires w.ensures
