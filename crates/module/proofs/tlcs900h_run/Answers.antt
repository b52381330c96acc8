use Rattle.std.proofs.Common.{ap, sym, ◌∙◌}
use Rattle.answer.specs.Number.{number_of, at_of}
use Rattle.module.proofs.Laws.{run_many, run_stops, run_ran}
use Rattle.module.proofs.tlcs900h_run.Goals as goal

pub returns-then-steps-gt-MOST_STEPS : goal.returns-then-steps-gt-MOST_STEPS
returns-then-steps-gt-MOST_STEPS c =
    let a = c.args in
    run_many a.steps a.bytes.now a.ram.now a.rom.now c.if-steps-gt-MOST_STEPS.true c.told.ensures.value c.told.ensures.at_after

pub returns-in-Err : goal.returns-in-Err
returns-in-Err c =
    let a = c.args in
    run_stops a.steps a.bytes.now a.ram.now a.rom.now c.if-steps-gt-MOST_STEPS.false c.opened-o.result c.opened-o.ensures c.in-Err.why c.in-Err.is
    (c.told-in-Err.ensures.value ∙ ap number_of (sym c.in-Err.is)) (c.told-in-Err.ensures.at_after ∙ ap at_of (sym c.in-Err.is))

pub returns : goal.returns
returns c =
    let a = c.args in
    run_ran a.steps a.bytes.now a.ram.now a.rom.now c.if-steps-gt-MOST_STEPS.false c.opened-o.result c.opened-o.ensures c.run-r.result c.run-r.new.ram c.in_default.is c.run-r.ensures c.save.ensures.1 c.told-2.ensures.value c.told-2.ensures.at_after
