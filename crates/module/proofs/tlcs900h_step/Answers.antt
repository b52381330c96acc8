use mathlib.Core.Path.{sym, ◌∙◌}
use native.Mathlib.Omega.{arith}
use Rattle.module.proofs.Records.{step_is_run}
use Rattle.module.proofs.tlcs900h_step.Goals as goal

pub returns : goal.returns
returns c =
    let a = c.args in
    c.tlcs900h_run.ensures.0 ∙ sym (step_is_run a.bytes.now a.ram.now a.rom.now (λ i. omega (arith, c.slice_known-1.given i)))
