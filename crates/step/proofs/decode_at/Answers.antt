use mathlib.Core.Path.{refl, ◌∙◌}
use Rattle.step.proofs.decode_at.Goals as goal

pub returns : goal.returns
returns c = c.decode.ensures ∙ rw c.fetch.ensures.result_value refl
