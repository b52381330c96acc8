-- Shifts that are merged in place (specs/Patches.antt), proved.
use Prim.Native.Nat.{ℕ, ◌+◌, ◌^◌, ◌≤◌}
use mathlib.Core.List.{[], ◌∷◌}
use native.Mathlib.Omega.{arith}
use lib.ListN.{length, replicate}
use Rattle.little.specs.declared.Size.{Size}
use Rattle.alu.specs.declared.Shift.{Shift}
use Rattle.code.specs.declared.Operand.{Operand}
use Rattle.code.specs.declared.Operand.TheVariants.{Register, Named, Constant, Memory}
use Rattle.code.specs.Range.{InRegisters}
use Rattle.code.specs.Written.{code_of}
use Rattle.patch.specs.Patches.{shift_code, nop, ShiftsMergeInPlace}
use Rattle.patch.proofs.Pieces.{fit_two, patches_turn, patches_join}
use Rattle.patch.proofs.Changes.{shifts_merge}
use Rattle.patch.proofs.Turns.{nops_are_nothing}

-- a shift has three bytes, or four
shift_fits : (w : Shift) (z : Size) (o : Operand) (n : ℕ) → InRegisters z o → length (shift_code w z o n) ≤ 2 ^ 16
unfolding code_of
shift_fits w z (Register r) n h = omega arith
shift_fits w z (Named c) n h = omega arith
shift_fits w z (Constant v) n h = absurd h
shift_fits w z (Memory m) n h = absurd h

pub shifts_merge_in_place : ShiftsMergeInPlace
shifts_merge_in_place w z o a b n h m =
    let before = shift_code w z o a ∷ shift_code w z o b ∷ [] in
    let after = shift_code w z o (a + b) ∷ [] in
    patches_join before after [] (replicate n nop) (fit_two (shift_code w z o a) (shift_code w z o b) (shift_fits w z o a h) (shift_fits w z o b h))
    (shifts_merge w z o a b h m) (patches_turn (replicate n nop) [] (nops_are_nothing n))
