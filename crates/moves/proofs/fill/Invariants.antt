-- What is filled already.
use Rattle.std.proofs.Common.{◌≡◌, ◌++◌, length, take}
use Rattle.std.proofs.Math.ListN.{replicate}
use Rattle.moves.proofs.fill.Given as goal

abbrev pub invariant-loop-i : goal.invariant-loop-i
invariant-loop-i l = take l.i l.room ≡ take l.i (l.from ++ replicate (length l.initial.room) 0)
