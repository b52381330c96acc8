use mathlib.Core.Path.{◌∙◌}
use Rattle.alu.proofs.Results.{plain_made}
use Rattle.alu.proofs.logic.plain.Goals as goal

pub returns : goal.returns
returns c = c.judged.ensures ∙ plain_made _ _ _ _ _ _ c.parity.ensures c.marks.ensures
