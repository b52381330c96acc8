use Prim.Native.Nat.{◌≤◌, ◌-◌}
use mathlib.Core.Path.{◌≡◌}
use lib.ListN.{length}
use Rattle.memory.specs.Access.{code_at}
use Rattle.state.specs.inner.Lent.{banked_at_with}
use Rattle.state.specs.declared.State.{State}
use Rattle.operand.specs.Try.{did}
use Rattle.turn.specs.inner.Times.{times_of}
use Rattle.turn.proofs.block.Given as goal

abbrev pub invariant-loop-why : goal.invariant-loop-why
invariant-loop-why l =
    (l.left ≤ l.most)
    × (l.more ≡ l.initial.more)
    × (l.counter ≡ l.initial.counter)
    × (length l.ram ≡ length l.initial.ram)
    × (code_at l.ram l.rom l.at ≡ code_at l.initial.ram l.rom l.at)
    × ((rest : State) → times_of (l.most - l.left) (banked_at_with rest l.initial.regs l.bank l.at l.initial.flags) l.initial.ram l.rom ≡ did (banked_at_with rest l.regs l.bank l.at l.flags) l.ram)

abbrev pub decreases-loop-why : goal.decreases-loop-why
decreases-loop-why l =
    l.left
