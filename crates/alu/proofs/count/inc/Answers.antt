use mathlib.Core.Path.{◌∙◌}
use Rattle.alu.specs.Count.{inc_of}
use Rattle.alu.proofs.count.inc.Goals as goal

pub returns : goal.returns
unfolding inc_of
returns c = c.counted.ensures ∙ simp c.add.ensures
