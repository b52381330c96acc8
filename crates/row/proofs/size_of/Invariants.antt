use Prim.Native.Nat.{◌*◌, ◌≤◌}
use mathlib.Core.Path.{◌≡◌}
use lib.ListN.{length, take}
use Rattle.row.specs.Row.{row_of}
use Rattle.row.proofs.size_of.Given as goal

abbrev pub invariant-loop-i : goal.invariant-loop-i
invariant-loop-i l = (l.size ≡ length (row_of (take l.i-index l.i-items))) × (l.size ≤ 512 * l.i-index)
