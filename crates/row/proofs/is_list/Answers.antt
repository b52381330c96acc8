use mathlib.Core.Path.{sym, ◌∙◌}
use borrow.Author.Rules.{rules}
use Rattle.row.specs.Row.{list_in, blank}
use Rattle.row.proofs.Lists.{is_all, all_is}
use Rattle.row.proofs.is_list.Goals as goal

pub returns-then-list-le-MOST : goal.returns-then-list-le-MOST
returns-then-list-le-MOST c = all_is (list_in c.args.list) blank c.all.result (search rules) (search rules) ∙ sym (is_all c.args.list c.if-list-le-MOST.true)
