-- `memory::past_end` meets its contract: by which memory holds the address.
use mathlib.Core.Path.{sym}
use native.Mathlib.Omega.{arith}
use Rattle.memory.proofs.Ends.{end_ram, end_rom, end_none, rom_below, rom_past}
use Rattle.memory.proofs.past_end.Goals as goal
use Rattle.memory.proofs.past_end.Goals.{then-at-lt-SPACE+else-at-rom_len, else-at-lt-SPACE}

pub returns-then-at-ram_len : goal.returns-then-at-ram_len
returns-then-at-ram_len c =
    let a = c.args in
    sym (end_ram a.ram_len a.rom_len a.address (omega arith))

pub returns-then-at-rom_len : goal.returns-then-at-rom_len
returns-then-at-rom_len c =
    let a = c.args in
    sym (end_rom a.ram_len a.rom_len a.address (omega arith) (omega arith) (omega arith))

pub returns : goal.returns
returns c =
    let a = c.args in
    elim c.if-at-lt-SPACE.branch [
      | then-at-lt-SPACE+else-at-rom_len w ↦
          sym (end_none a.ram_len a.rom_len a.address (omega arith) (rom_below a.rom_len a.address (omega arith)))
      | else-at-lt-SPACE w ↦
          sym (end_none a.ram_len a.rom_len a.address (omega arith) (rom_past a.rom_len a.address (omega arith)))
    ]
