use mathlib.Core.Path.{◌∙◌}
use Rattle.decode.proofs.whole_begun.Goals as goal

pub returns-in-Form : goal.returns-in-Form
returns-in-Form c = c.whole_of_memory.ensures ∙ (c.after.ensures _ ∙ (rw c.in-Form.is at c.begin.ensures))

pub returns-in-Short : goal.returns-in-Short
returns-in-Short c = rw c.in-Short.is at c.begin.ensures

pub returns-in-Unlisted : goal.returns-in-Unlisted
returns-in-Unlisted c = rw c.in-Unlisted.is at c.begin.ensures
