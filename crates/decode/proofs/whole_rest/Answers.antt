use mathlib.Core.Path.{sym, ◌∙◌}
use Rattle.decode.proofs.whole_rest.Goals as goal

pub returns : goal.returns
returns c = c.whole_of_feed.ensures ∙ c.read-read.ensures _ (sym c.is_low.ensures)
