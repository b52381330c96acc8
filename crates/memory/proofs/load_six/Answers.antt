-- `memory::load_six` meets its contract: by the arms of the place.
use mathlib.Core.Path.{◌≡◌, sym, ap, ◌∙◌}
use Rattle.std.proofs.Common.{Ok}
use lib.ListN.{length}
use Rattle.memory.specs.Place.{place_of}
use Rattle.memory.specs.Access.{load_from}
use Rattle.memory.specs.declared.Place.{Place}
use Rattle.memory.specs.declared.Place.TheVariants.{Ram, Rom}
use Rattle.memory.proofs.Laws.{ram_fits_lem, rom_fits_lem}
use Rattle.memory.proofs.load_six.Goals as goal

pub six_at-requires : goal.six_at-requires
six_at-requires c =
    let is_ram : let a = c.args in place_of (length a.ram.now) (length a.rom.now) a.address 6 ≡ Ram c.in-Ram.o = sym c.find.ensures ∙ c.in-Ram.is in
    (ram_fits_lem _ _ _ _ _ is_ram).1

pub six_at-requires-in-Rom : goal.six_at-requires-in-Rom
six_at-requires-in-Rom c =
    let is_rom : let a = c.args in place_of (length a.ram.now) (length a.rom.now) a.address 6 ≡ Rom c.in-Rom.o = sym c.find.ensures ∙ c.in-Rom.is in
    (rom_fits_lem _ _ _ _ _ is_rom).1

pub returns-in-Ram : goal.returns-in-Ram
returns-in-Ram c =
    let is_ram : let a = c.args in place_of (length a.ram.now) (length a.rom.now) a.address 6 ≡ Ram c.in-Ram.o = sym c.find.ensures ∙ c.in-Ram.is in
    let a = c.args in
    record { result_value = ap Ok c.six_at.ensures.both ∙ ap (λ (p : Place). load_from p a.ram.now a.rom.now 6) (sym is_ram); six_fits = c.six_at.ensures.fits }

pub returns-in-Rom : goal.returns-in-Rom
returns-in-Rom c =
    let is_rom : let a = c.args in place_of (length a.ram.now) (length a.rom.now) a.address 6 ≡ Rom c.in-Rom.o = sym c.find.ensures ∙ c.in-Rom.is in
    let a = c.args in
    record { result_value = ap Ok c.six_at-in-Rom.ensures.both ∙ ap (λ (p : Place). load_from p a.ram.now a.rom.now 6) (sym is_rom); six_fits = c.six_at-in-Rom.ensures.fits }

pub returns-in-Missing : goal.returns-in-Missing
returns-in-Missing c =
    let a = c.args in
    record { result_value = ap (λ (p : Place). load_from p a.ram.now a.rom.now 6) (sym (sym c.find.ensures ∙ c.in-Missing.is)); six_fits = tt }
