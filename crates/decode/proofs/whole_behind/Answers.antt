use mathlib.Core.Path.{◌∙◌}
use Rattle.decode.proofs.whole_behind.Goals as goal

pub returns : goal.returns
returns c = c.whole_of_register.ensures ∙ c.read.ensures _
