use mathlib.Core.Path.{ap}
use mathlib.Core.Bool.{not}
use Rattle.moves.proofs.Laws.{narrow_stops, narrow_other_room, narrow_turned, narrow_fills}
use Rattle.moves.proofs.tlcs900h_narrow.Goals as goal

pub returns-in-Err : goal.returns-in-Err
returns-in-Err c =
    let a = c.args in
    narrow_stops a.new.now a.old.now c.load-o.ensures c.in-Err.why c.in-Err.is c.number.ensures

pub returns-then-room-ne-OLD_LENGTH : goal.returns-then-room-ne-OLD_LENGTH
returns-then-room-ne-OLD_LENGTH c =
    let a = c.args in
    narrow_other_room a.new.now a.old.now c.if-room-ne-OLD_LENGTH.true c.number-then-room-ne-OLD_LENGTH.ensures

pub returns-then-not-fits_old : goal.returns-then-not-fits_old
returns-then-not-fits_old c =
    let a = c.args in
    narrow_turned a.new.now a.old.now c.load-o.ensures c.in_default.is c.if-room-ne-OLD_LENGTH.false c.fits_old.ensures (ap not c.if-not-fits_old.true) c.number-then-not-fits_old.ensures

pub returns : goal.returns
returns c =
    let a = c.args in
    narrow_fills a.new.now a.old.now c.load-o.ensures c.in_default.is c.if-room-ne-OLD_LENGTH.false c.fits_old.ensures (ap not c.if-not-fits_old.false) c.fill.ensures c.number-2.ensures
