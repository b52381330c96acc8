-- `memory::load_bytes` meets its contract: by the arms of the place.
use mathlib.Core.Path.{◌≡◌, sym, ap, ◌∙◌}
use native.Mathlib.Omega.{arith}
use lib.ListN.{length, drop}
use Rattle.little.specs.Bytes.{value_of}
use Rattle.memory.specs.Place.{place_of}
use Rattle.memory.specs.Access.{load_from}
use Rattle.memory.specs.declared.Place.{Place}
use Rattle.memory.specs.declared.Place.TheVariants.{Ram, Rom}
use Rattle.memory.proofs.Laws.{ram_fits_lem, rom_fits_lem, part_four}
use Rattle.memory.proofs.load_bytes.Goals as goal
use Rattle.std.proofs.Common.{Ok}

pub overflow_add-e : goal.overflow_add-e
overflow_add-e c =
    let is_ram : let a = c.args in place_of (length a.ram.now) (length a.rom.now) a.address a.n ≡ Ram c.in-Ram.o = sym c.find.ensures ∙ c.in-Ram.is in
    omega (arith, (ram_fits_lem _ _ _ _ _ is_ram).1)

pub slice_bounds-read-end : goal.slice_bounds-read-end
slice_bounds-read-end c =
    let is_ram : let a = c.args in place_of (length a.ram.now) (length a.rom.now) a.address a.n ≡ Ram c.in-Ram.o = sym c.find.ensures ∙ c.in-Ram.is in
    (ram_fits_lem _ _ _ _ _ is_ram).1

pub overflow_add-e-in-Rom : goal.overflow_add-e-in-Rom
overflow_add-e-in-Rom c =
    let is_rom : let a = c.args in place_of (length a.ram.now) (length a.rom.now) a.address a.n ≡ Rom c.in-Rom.o = sym c.find.ensures ∙ c.in-Rom.is in
    omega (arith, (rom_fits_lem _ _ _ _ _ is_rom).1)

pub slice_bounds-read-end-in-Rom : goal.slice_bounds-read-end-in-Rom
slice_bounds-read-end-in-Rom c =
    let is_rom : let a = c.args in place_of (length a.ram.now) (length a.rom.now) a.address a.n ≡ Rom c.in-Rom.o = sym c.find.ensures ∙ c.in-Rom.is in
    (rom_fits_lem _ _ _ _ _ is_rom).1

pub returns-in-Ram : goal.returns-in-Ram
returns-in-Ram c =
    let is_ram : let a = c.args in place_of (length a.ram.now) (length a.rom.now) a.address a.n ≡ Ram c.in-Ram.o = sym c.find.ensures ∙ c.in-Ram.is in
    let k = c in
    let t = k in
    let a = t.args in
    ap Ok (c.read.ensures ∙ ap value_of (part_four k.in-Ram.o a.n (drop k.in-Ram.o a.ram.now) t.requires))
    ∙ ap (λ (p : Place). load_from p a.ram.now a.rom.now a.n) (sym is_ram)

pub returns-in-Rom : goal.returns-in-Rom
returns-in-Rom c =
    let is_rom : let a = c.args in place_of (length a.ram.now) (length a.rom.now) a.address a.n ≡ Rom c.in-Rom.o = sym c.find.ensures ∙ c.in-Rom.is in
    let k = c in
    let t = k in
    let a = t.args in
    ap Ok (c.read-in-Rom.ensures ∙ ap value_of (part_four k.in-Rom.o a.n (drop k.in-Rom.o a.rom.now) t.requires))
    ∙ ap (λ (p : Place). load_from p a.ram.now a.rom.now a.n) (sym is_rom)

pub returns-in-Missing : goal.returns-in-Missing
returns-in-Missing c =
    let k = c in
    let a = k.args in
    ap (λ (p : Place). load_from p a.ram.now a.rom.now a.n) (sym (sym k.find.ensures ∙ k.in-Missing.is))
