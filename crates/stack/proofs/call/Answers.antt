use Rattle.std.proofs.Common.{arith}
use Rattle.little.specs.declared.Size.TheVariants.{Long}
use Rattle.state.specs.State.{with_counter}
use Rattle.state.specs.inner.Lent.{banked_at}
use Rattle.state.specs.declared.State.{State}
use Rattle.stack.specs.Stack.{push_of}
use Rattle.operand.proofs.Laws.{then_done, then_refused}
use Rattle.stack.proofs.call.Goals as goal

pub returns-in_err-push : goal.returns-in_err-push
returns-in_err-push c rest =
    let a = c.args in
    grind (arith, then_refused, c.push.ensures (banked_at rest a.regs.now a.bank a.counter.now))

pub returns : goal.returns
unfolding with_counter
returns c rest =
    let a = c.args in
    then_done _ _ _ _ _ (λ (t : State). with_counter t a.to) (push_of _ _ _ Long _)
    (c.push.ensures (banked_at rest a.regs.now a.bank a.counter.now)) c.in_ok-push.was
