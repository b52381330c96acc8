use Rattle.flags.proofs.Raised.{sum_fits, sum_raised}
use Rattle.flags.proofs.sum.add.Goals as goal

pub overflow_add-sum-2 : goal.overflow_add-sum-2
overflow_add-sum-2 c =
    let r = c in
    let a = r.args in
    record { fits = sum_fits a.size a.a a.b a.carry r.room-k.result c.one.result r.room-k.ensures.value c.one.ensures.0 }

pub returns : goal.returns
returns c =
    let o = c in
    let r = o in
    let a = r.args in
    sum_raised a.size a.a a.b a.carry r.room-k.result o.one.result r.room-k.ensures.value o.one.ensures.0 _ _ _ c.half.ensures c.turned.ensures (c.marks.ensures a.size r.room-k.ensures.value)
