use Prim.Native.Nat.{◌≤◌, ◌-◌}
use mathlib.Core.Path.{◌≡◌}
use lib.ListN.{length}
use Rattle.state.specs.inner.Lent.{all_of}
use Rattle.turn.specs.Many.{many_of}
use Rattle.turn.proofs.many.Given as goal

abbrev pub invariant-loop-left : goal.invariant-loop-left
invariant-loop-left l =
    (l.left ≤ l.steps)
    × (length l.ram ≡ length l.initial.ram)
    × (many_of l.left (l.steps - l.left) (all_of l.regs l.counter l.bank l.level l.flags l.spare l.nesting) l.ram l.rom
    ≡ many_of l.steps 0 (all_of l.initial.regs l.initial.counter l.initial.bank l.initial.level l.initial.flags l.initial.spare l.initial.nesting) l.initial.ram l.rom)

abbrev pub decreases-loop-left : goal.decreases-loop-left
decreases-loop-left l = l.left
