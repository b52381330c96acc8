-- A list that is held as it was read: it is the list, and can be written where the list can.
use Prim.Native.Nat.{◌-◌}
use mathlib.Core.Path.{◌≡◌, ap}
use mathlib.Core.Bool.{◌&&◌}
use mathlib.Core.List.{List}
use lib.ListN.{length, replicate}
use lib.Seq.{take-append_seam}
use lib.Dec.{leb}
use Rattle.code.specs.declared.Instruction.{Instruction}
use Rattle.row.specs.Row.{most, all_listed, can_write, list_in, is_list, blank, held_as}

pub held_list : (l : List Instruction) → list_in (held_as l) ≡ l
unfolding held_as
held_list l = take-append_seam l (replicate (most - length l) blank)

pub held_good : (l : List Instruction) → is_list (held_as l) ≡ can_write l
unfolding is_list can_write held_as
held_good l = ap (λ (m : List Instruction). leb (length l) most && all_listed m) (held_list l)
