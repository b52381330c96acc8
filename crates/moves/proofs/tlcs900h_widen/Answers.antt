use Rattle.moves.proofs.Laws.{widen_stops, widen_other_room, widen_fills}
use Rattle.moves.proofs.tlcs900h_widen.Goals as goal

pub returns-in-Err : goal.returns-in-Err
returns-in-Err c =
    let a = c.args in
    widen_stops a.old.now a.new.now c.load_old-o.ensures c.in-Err.why c.in-Err.is c.number.ensures

pub returns-then-new-ne-LENGTH : goal.returns-then-new-ne-LENGTH
returns-then-new-ne-LENGTH c =
    let a = c.args in
    widen_other_room a.old.now a.new.now c.if-new-ne-LENGTH.true c.number-then-new-ne-LENGTH.ensures

pub returns : goal.returns
returns c =
    let a = c.args in
    widen_fills a.old.now a.new.now c.load_old-o.ensures c.in_default.is c.if-new-ne-LENGTH.false c.fill.ensures c.number-2.ensures
