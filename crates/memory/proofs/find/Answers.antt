-- `memory::find` meets its contract: at each return the tests that led there say which case of `place_of` holds.
use Prim.Native.Nat.{◌+◌, ◌-◌, ◌<◌, ◌≤◌, ◌^◌}
use mathlib.Core.Path.{◌≡◌, sym, ap, ◌∙◌}
use native.Mathlib.Omega.{arith}
use Rattle.memory.specs.declared.Place.TheVariants.{Rom, Missing}
use Rattle.memory.proofs.Ends.{missing_past}
use Rattle.memory.proofs.Laws.{place_ram, place_rom, place_none}
use Rattle.memory.proofs.find.Goals as goal
use Rattle.memory.proofs.find.Goals.{then-at-ram_len+else-n-ram_len, else-at-ram_len}
use Rattle.memory.proofs.find.Goals.{then-at-le-SPACE+then-above-rom_len+else-n-above, then-at-le-SPACE+else-above-rom_len, else-at-le-SPACE}

pub returns-then-n-ram_len : goal.returns-then-n-ram_len
returns-then-n-ram_len c =
    let a = c.args in
    sym (place_ram a.ram_len a.rom_len a.address a.n (omega arith))

pub returns-then-n-above : goal.returns-then-n-above
returns-then-n-above c =
    let not_ram : c.args.ram_len < c.args.address + c.args.n = elim c.if-at-ram_len.branch [ then-at-ram_len+else-n-ram_len w ↦ omega arith | else-at-ram_len w ↦ omega arith ] in
    let j = c in
    let a = j.args in
    let e : a.rom_len - (2 ^ 24 - a.address) ≡ a.address + a.rom_len - 2 ^ 24 = omega arith in
    ap Rom e ∙ sym (place_rom a.ram_len a.rom_len a.address a.n not_ram (omega arith) (omega arith))

pub returns : goal.returns
returns c =
    let not_ram : c.args.ram_len < c.args.address + c.args.n = elim c.if-at-ram_len.branch [ then-at-ram_len+else-n-ram_len w ↦ omega arith | else-at-ram_len w ↦ omega arith ] in
    let not_rom : let a = c.args in 2 ^ 24 ≤ a.address + a.rom_len → 2 ^ 24 < a.address + a.n = λ h. elim c.if-at-le-SPACE.branch [ then-at-le-SPACE+then-above-rom_len+else-n-above w ↦ omega arith | then-at-le-SPACE+else-above-rom_len w ↦ omega arith | else-at-le-SPACE w ↦ omega arith ] in
    let j = c in
    let a = j.args in
    ap Missing (c.past_end.ensures ∙ sym (missing_past a.ram_len a.rom_len a.address a.n not_ram not_rom))
    ∙ sym (place_none a.ram_len a.rom_len a.address a.n not_ram not_rom)
