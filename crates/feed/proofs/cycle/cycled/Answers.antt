use mathlib.Core.Path.{◌∙◌}
use Rattle.feed.proofs.cycle.cycled.Goals as goal

pub returns-in-Minc : goal.returns-in-Minc
returns-in-Minc c = rw c.in-Minc.is (c.minc.ensures ∙ simp c.step_of.ensures.value)

pub returns-in-Mdec : goal.returns-in-Mdec
returns-in-Mdec c = rw c.in-Mdec.is (c.mdec.ensures ∙ simp c.step_of-in-Mdec.ensures.value)
