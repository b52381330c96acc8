use Rattle.module.proofs.Laws.{reset_stops, reset_saves}
use Rattle.module.proofs.tlcs900h_reset.Goals as goal

pub returns-in-Err : goal.returns-in-Err
returns-in-Err c =
    let a = c.args in
    reset_stops a.bytes.now a.ram.now a.rom.now c.reset-s.result c.reset-s.ensures c.in-Err.why c.in-Err.is c.number.ensures

pub returns : goal.returns
returns c =
    let a = c.args in
    reset_saves a.bytes.now a.ram.now a.rom.now c.reset-s.result c.reset-s.ensures c.in_default.is c.save.ensures.0 c.save.ensures.1 c.number-2.ensures
