use Rattle.feed.proofs.Powers.{in_table, no_table}
use Rattle.feed.proofs.cycle.is_table.Goals as goal

pub returns-in-2 : goal.returns-in-2
returns-in-2 c = in_table c.args.stride c.args.last _ c.step_of-step.ensures.value c.in-2.is

pub returns-in_default : goal.returns-in_default
returns-in_default c = no_table c.args.stride c.args.last _ c.step_of-step.ensures.value c.in_default.in_default-own.rest.1
