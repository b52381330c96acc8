-- `memory::fetch` meets its contract: by the arms of the place.
use Prim.Native.Nat.{◌≤◌}
use mathlib.Core.Path.{◌≡◌, refl, sym, ◌∙◌}
use native.Mathlib.Omega.{arith}
use lib.ListN.{length}
use Rattle.memory.specs.Place.{place_of}
use Rattle.memory.specs.declared.Place.TheVariants.{Ram, Rom}
use Rattle.memory.proofs.Laws.{ram_fits_lem, rom_fits_lem, part_drop, code_in}
use Rattle.memory.proofs.fetch.Goals as goal

pub slice_bounds-result-count : goal.slice_bounds-result-count
slice_bounds-result-count c =
    let is_ram : let a = c.args in place_of (length a.ram.now) (length a.rom.now) a.address 1 ≡ Ram c.in-Ram.o = sym c.find.ensures ∙ c.in-Ram.is in
    let in_ram : c.in-Ram.o ≤ length c.args.ram.now = omega (arith, (ram_fits_lem _ _ _ _ _ (is_ram)).1) in
    in_ram

pub slice_bounds-result-start : goal.slice_bounds-result-start
slice_bounds-result-start c =
    let is_ram : let a = c.args in place_of (length a.ram.now) (length a.rom.now) a.address 1 ≡ Ram c.in-Ram.o = sym c.find.ensures ∙ c.in-Ram.is in
    let in_ram : c.in-Ram.o ≤ length c.args.ram.now = omega (arith, (ram_fits_lem _ _ _ _ _ (is_ram)).1) in
    in_ram

pub slice_bounds-result-count-in-Rom : goal.slice_bounds-result-count-in-Rom
slice_bounds-result-count-in-Rom c =
    let is_rom : let a = c.args in place_of (length a.ram.now) (length a.rom.now) a.address 1 ≡ Rom c.in-Rom.o = sym c.find.ensures ∙ c.in-Rom.is in
    let in_rom : c.in-Rom.o ≤ length c.args.rom.now = omega (arith, (rom_fits_lem _ _ _ _ _ (is_rom)).1) in
    in_rom

pub slice_bounds-result-start-in-Rom : goal.slice_bounds-result-start-in-Rom
slice_bounds-result-start-in-Rom c =
    let is_rom : let a = c.args in place_of (length a.ram.now) (length a.rom.now) a.address 1 ≡ Rom c.in-Rom.o = sym c.find.ensures ∙ c.in-Rom.is in
    let in_rom : c.in-Rom.o ≤ length c.args.rom.now = omega (arith, (rom_fits_lem _ _ _ _ _ (is_rom)).1) in
    in_rom

pub returns-in-Ram : goal.returns-in-Ram
returns-in-Ram c =
    let is_ram : let a = c.args in place_of (length a.ram.now) (length a.rom.now) a.address 1 ≡ Ram c.in-Ram.o = sym c.find.ensures ∙ c.in-Ram.is in
    let k = c in
    let a = k.args in
    record { result_value = part_drop k.in-Ram.o a.ram.now ∙ sym (code_in a.ram.now a.rom.now a.address is_ram); ref_ptr_value = rw is_ram refl }

pub returns-in-Rom : goal.returns-in-Rom
returns-in-Rom c =
    let is_rom : let a = c.args in place_of (length a.ram.now) (length a.rom.now) a.address 1 ≡ Rom c.in-Rom.o = sym c.find.ensures ∙ c.in-Rom.is in
    let k = c in
    let a = k.args in
    record { result_value = part_drop k.in-Rom.o a.rom.now ∙ sym (code_in a.ram.now a.rom.now a.address is_rom); ref_ptr_value = rw is_rom refl }

pub returns-in-Missing : goal.returns-in-Missing
returns-in-Missing c =
    let k = c in
    let a = k.args in
    let e = sym k.find.ensures ∙ k.in-Missing.is in
    record { result_value = sym (code_in a.ram.now a.rom.now a.address e); ref_ptr_value = rw e refl }
