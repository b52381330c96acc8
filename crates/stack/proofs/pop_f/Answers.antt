use Rattle.std.proofs.Common.{arith}
use Rattle.state.specs.State.{with_flags, with_both_flags}
use Rattle.state.specs.inner.Lent.{banked_with}
use Rattle.memory.specs.Access.{load_of}
use Rattle.flags.proofs.Packed.{byte_low}
use Rattle.stack.specs.Stack.{pop_of}
use Rattle.stack.proofs.pop_f.Goals as goal

pub returns : goal.returns
unfolding pop_of load_of with_flags with_both_flags
returns c rest = grind (arith, c.in_ok-v.ensures.end (banked_with rest c.args.regs.now c.args.bank c.args.flags.now), byte_low)
