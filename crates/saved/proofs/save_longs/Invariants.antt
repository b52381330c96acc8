use Rattle.std.proofs.Common.{◌≡◌, ◌*◌, take}
use Rattle.saved.specs.Record.{longs_bytes}
use Rattle.saved.proofs.save_longs.Given as goal

abbrev pub invariant-loop-i : goal.invariant-loop-i
invariant-loop-i l = take (4 * l.i) l.out ≡ longs_bytes (take l.i l.s.registers)
