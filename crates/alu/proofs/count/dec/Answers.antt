use mathlib.Core.Path.{◌∙◌}
use Rattle.alu.specs.Count.{dec_of}
use Rattle.alu.proofs.count.dec.Goals as goal

pub returns : goal.returns
unfolding dec_of
returns c = c.counted.ensures ∙ simp c.sub.ensures
