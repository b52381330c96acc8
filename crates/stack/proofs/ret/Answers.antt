use Rattle.std.proofs.Common.{arith}
use Rattle.state.specs.State.{with_counter}
use Rattle.state.specs.inner.Lent.{banked_at}
use Rattle.memory.specs.Access.{load_of}
use Rattle.stack.specs.Stack.{pop_of}
use Rattle.stack.proofs.ret.Goals as goal

pub returns : goal.returns
unfolding pop_of load_of with_counter
returns c rest = grind (arith, c.in_ok-v.ensures.end (banked_at rest c.args.regs.now c.args.bank c.args.counter.now))
