use Prim.Native.Nat.{◌<◌}
use mathlib.Core.Path.{refl, ◌∙◌}
use native.Mathlib.Omega.{arith}
use Rattle.state.specs.State.{long_of}
use Rattle.state.specs.Register.{register_at, slot_in}
use Rattle.state.proofs.Laws.{slot_held}
use Rattle.state.proofs.read.Goals as goal

pub offset_bounds-registers-i : goal.offset_bounds-registers-i
offset_bounds-registers-i c =
    let known : c.slot_of-t.result.index < 20 = let a = c.args in slot_held a.bank.0 a.size a.code c.slot_of-t.result c.slot_of-t.ensures in
    let h = known in omega (arith, h)

pub bounds-registers-i : goal.bounds-registers-i
bounds-registers-i c =
    let known : c.slot_of-t.result.index < 20 = let a = c.args in slot_held a.bank.0 a.size a.code c.slot_of-t.result c.slot_of-t.ensures in
    known

pub returns : goal.returns
unfolding register_at slot_in long_of
returns c = c.bits_of.ensures ∙ rw c.slot_of-t.ensures refl
