use Prim.Native.Nat.{◌<◌}
use mathlib.Core.Path.{refl}
use native.Mathlib.Omega.{arith}
use Rattle.state.specs.State.{long_of, with_long}
use Rattle.state.specs.Register.{set_register, set_slot}
use Rattle.state.proofs.Laws.{slot_held}
use Rattle.state.proofs.write.Goals as goal

pub offset_bounds-registers-i : goal.offset_bounds-registers-i
offset_bounds-registers-i c =
    let known : c.slot_of-t.result.index < 20 = let a = c.args in slot_held a.bank.0 a.size a.code c.slot_of-t.result c.slot_of-t.ensures in
    let h = known in omega (arith, h)

pub bounds-registers-i : goal.bounds-registers-i
bounds-registers-i c =
    let known : c.slot_of-t.result.index < 20 = let a = c.args in slot_held a.bank.0 a.size a.code c.slot_of-t.result c.slot_of-t.ensures in
    known

pub offset_bounds-registers-i-2 : goal.offset_bounds-registers-i-2
offset_bounds-registers-i-2 c =
    let known : c.slot_of-t.result.index < 20 = let a = c.args in slot_held a.bank.0 a.size a.code c.slot_of-t.result c.slot_of-t.ensures in
    let h = known in omega (arith, h)

pub bounds-registers-i-2 : goal.bounds-registers-i-2
bounds-registers-i-2 c =
    let known : c.slot_of-t.result.index < 20 = let a = c.args in slot_held a.bank.0 a.size a.code c.slot_of-t.result c.slot_of-t.ensures in
    known

pub returns : goal.returns
unfolding set_register set_slot with_long long_of
returns c s = rw (c.with_bits.ensures, c.slot_of-t.ensures) refl
