use Prim.Native.Nat.{◌+◌, ◌%◌, ◌^◌}
use mathlib.Core.Path.{refl, ap}
use Rattle.state.specs.State.{with_counter}
use Rattle.state.specs.inner.Lent.{all_of}
use Rattle.state.specs.declared.State.{State}
use Rattle.state.specs.Register.{set_register}
use Rattle.operand.specs.Try.{did, after}
use Rattle.control.specs.Control.{control_of}
use Rattle.stack.specs.Stack.{stack_of}
use Rattle.interrupt.specs.Interrupt.{interrupt_of}
use Rattle.exec.specs.Exec.{past_of, effect_of, executed_of}
use Rattle.exec.proofs.Laws.{returned, moved_on}
use Rattle.exec.proofs.alone.Goals as goal
use Rattle.std.proofs.Common.{Ok}

pub returns-in-Controls : goal.returns-in-Controls
unfolding executed_of effect_of past_of with_counter
returns-in-Controls c =
    let a = c.args in
    let n = c.in-Controls.n in
    let s = all_of a.regs.now a.counter.now a.bank.now a.level.now a.flags.now a.spare.now a.nesting.now in
    let p = all_of a.regs.now ((a.counter.now + n) % 2 ^ 24) a.bank.now a.level.now a.flags.now a.spare.now a.nesting.now in
    rw (c.back.ensures.0, c.back.ensures.1, c.in-Controls.is)
    (returned s n a.ram.now _ _ _ (control_of c.in-Controls.what c.in-Controls.v p a.ram.now) (rw c.past.ensures at (c.control-a.ensures s a.ram.now)))

pub returns-in-Stacks : goal.returns-in-Stacks
unfolding executed_of effect_of past_of with_counter
returns-in-Stacks c =
    let a = c.args in
    let n = c.in-Stacks.n in
    let s = all_of a.regs.now a.counter.now a.bank.now a.level.now a.flags.now a.spare.now a.nesting.now in
    let p = all_of a.regs.now ((a.counter.now + n) % 2 ^ 24) a.bank.now a.level.now a.flags.now a.spare.now a.nesting.now in
    rw (c.back-in-Stacks.ensures.0, c.back-in-Stacks.ensures.1, c.in-Stacks.is)
    (returned s n a.ram.now _ _ _ (stack_of c.in-Stacks.what c.in-Stacks.size c.in-Stacks.operand p a.ram.now a.rom.now) (rw (c.past-in-Stacks.ensures, c.current-b.ensures) at (c.stack-a.ensures s)))

pub returns-in-Sets : goal.returns-in-Sets
unfolding executed_of effect_of past_of with_counter
returns-in-Sets c =
    let a = c.args in
    let n = c.in-Sets.n in
    let s = all_of a.regs.now a.counter.now a.bank.now a.level.now a.flags.now a.spare.now a.nesting.now in
    let u = all_of c.write.new.registers a.counter.now a.bank.now a.level.now a.flags.now a.spare.now a.nesting.now in
    let p = all_of a.regs.now ((a.counter.now + n) % 2 ^ 24) a.bank.now a.level.now a.flags.now a.spare.now a.nesting.now in
    rw (c.on.ensures.0, c.on.ensures.1, c.in-Sets.is)
    (moved_on s n a.ram.now (Ok tt) u a.ram.now (did (set_register p c.in-Sets.size c.in-Sets.r c.in-Sets.v) a.ram.now)
    (ap (λ (x : State). after (Ok tt) x a.ram.now) (rw c.current.ensures at (c.write.ensures p))))

pub returns-in-Interrupts : goal.returns-in-Interrupts
unfolding executed_of effect_of past_of with_counter
returns-in-Interrupts c =
    let a = c.args in
    let n = c.in-Interrupts.n in
    let s = all_of a.regs.now a.counter.now a.bank.now a.level.now a.flags.now a.spare.now a.nesting.now in
    let p = all_of a.regs.now ((a.counter.now + n) % 2 ^ 24) a.bank.now a.level.now a.flags.now a.spare.now a.nesting.now in
    rw (c.back-in-Interrupts.ensures.0, c.back-in-Interrupts.ensures.1, c.in-Interrupts.is)
    (returned s n a.ram.now _ _ _ (interrupt_of c.in-Interrupts.what p a.ram.now a.rom.now) (rw c.past-in-Interrupts.ensures at (c.interrupt-a.ensures s)))

pub returns-in-Short : goal.returns-in-Short
returns-in-Short c = rw c.in-Short.is refl

pub returns-in-Unlisted : goal.returns-in-Unlisted
returns-in-Unlisted c = rw c.in-Unlisted.is refl
