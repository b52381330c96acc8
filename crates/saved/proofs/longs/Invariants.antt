use Rattle.std.proofs.Common.{◌≡◌, length, take}
use Rattle.saved.specs.Record.{longs_at}
use Rattle.saved.proofs.longs.Given as goal

abbrev pub invariant-loop-i : goal.invariant-loop-i
invariant-loop-i l = record { long : length l.registers ≡ 20; filled : take l.i l.registers ≡ longs_at l.i l.bytes }
