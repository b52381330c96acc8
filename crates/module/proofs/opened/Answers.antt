use mathlib.Core.Path.{sym, ◌∙◌}
use Rattle.module.proofs.Laws.{opened_long, opened_loads}
use Rattle.module.proofs.opened.Goals as goal

pub returns-then-too_long : goal.returns-then-too_long
returns-then-too_long c = rw c.zero.ensures (sym (opened_long c.args.bytes.now _ _ (sym c.too_long.ensures ∙ c.if-too_long.true)))

pub returns : goal.returns
returns c = c.load.ensures ∙ sym (opened_loads c.args.bytes.now _ _ (sym c.too_long.ensures ∙ c.if-too_long.false))
