use mathlib.Core.Path.{sym, ◌∙◌}
use Rattle.run.proofs.Laws.{run_many, run_long, run_invalid, run_goes}
use Rattle.run.proofs.run.Goals as goal

pub returns-then-steps-gt-MOST_STEPS : goal.returns-then-steps-gt-MOST_STEPS
returns-then-steps-gt-MOST_STEPS c =
    let a = c.args in
    rw c.refuse.ensures (sym (run_many a.s a.ram.now a.rom.now a.steps c.if-steps-gt-MOST_STEPS.true))

pub returns-then-too_long : goal.returns-then-too_long
returns-then-too_long c =
    let a = c.args in
    rw c.refuse-then-too_long.ensures
    (sym (run_long a.s a.ram.now a.rom.now a.steps c.if-steps-gt-MOST_STEPS.false (sym c.too_long.ensures ∙ c.if-too_long.true)))

pub returns-then-valid : goal.returns-then-valid
returns-then-valid c =
    let a = c.args in
    let few = c.if-steps-gt-MOST_STEPS.false in
    let short = sym c.too_long.ensures ∙ c.if-too_long.false in
    let good = sym c.valid.ensures ∙ c.if-valid.true in
    c.many.ensures
    ∙ sym (run_goes a.s a.ram.now a.rom.now a.steps few short good)

pub returns : goal.returns
returns c =
    let a = c.args in
    rw c.refuse-2.ensures
    (sym (run_invalid a.s a.ram.now a.rom.now a.steps c.if-steps-gt-MOST_STEPS.false (sym c.too_long.ensures ∙ c.if-too_long.false) (sym c.valid.ensures ∙ c.if-valid.false)))
