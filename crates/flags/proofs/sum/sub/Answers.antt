use Rattle.flags.proofs.Raised.{less_fits, less_le, difference_raised}
use Rattle.flags.proofs.sum.sub.Goals as goal

pub overflow_add-less : goal.overflow_add-less
overflow_add-less c =
    let r = c in
    let a = r.args in
    record { fits = less_fits a.size a.a a.b a.carry r.room-k.result c.one.result r.room-k.ensures.value c.one.ensures.0 }

pub overflow_sub-r : goal.overflow_sub-r
overflow_sub-r c =
    let r = c in
    let a = r.args in
    less_le a.size a.a a.b a.carry r.room-k.result c.one.result r.room-k.ensures.value c.one.ensures.0

pub returns : goal.returns
returns c =
    let o = c in
    let r = o in
    let a = r.args in
    difference_raised a.size a.a a.b a.carry r.room-k.result o.one.result r.room-k.ensures.value o.one.ensures.0 _ _ _ c.half.ensures c.turned_less.ensures (c.marks.ensures a.size r.room-k.ensures.value)
