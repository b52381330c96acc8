use Rattle.std.proofs.Common.{ap, sym, ◌∙◌}
use Rattle.answer.specs.Number.{number_of, at_of}
use Rattle.module.proofs.Laws.{request_stops, request_not, request_took}
use Rattle.module.proofs.tlcs900h_request.Goals as goal

pub returns-in-Err : goal.returns-in-Err
returns-in-Err c =
    let a = c.args in
    request_stops a.bytes.now a.ram.now a.rom.now c.opened-o.result c.opened-o.ensures a.level a.vector c.in-Err.why c.in-Err.is
    (c.told.ensures.value ∙ ap number_of (sym c.in-Err.is)) (c.told.ensures.at_after ∙ ap at_of (sym c.in-Err.is))

pub returns-then-not-q : goal.returns-then-not-q
returns-then-not-q c =
    let a = c.args in
    request_not a.bytes.now a.ram.now a.rom.now c.opened-o.result c.opened-o.ensures a.level a.vector c.request-q.result c.request-q.new.ram c.in_default.is c.request-q.ensures c.if-not-q.true c.told-then-not-q.ensures.value c.told-then-not-q.ensures.at_after

pub returns : goal.returns
returns c =
    let a = c.args in
    request_took a.bytes.now a.ram.now a.rom.now c.opened-o.result c.opened-o.ensures a.level a.vector c.request-q.result c.request-q.new.ram c.in_default.is c.request-q.ensures c.if-not-q.false c.save.ensures.1 c.told-2.ensures.value c.told-2.ensures.at_after
