-- `memory::store_bytes` meets its contract: by the arms of the place.
use mathlib.Core.Path.{◌≡◌, refl, sym, ◌∙◌}
use native.Mathlib.Omega.{arith}
use lib.ListN.{length}
use Rattle.little.proofs.Laws.{written}
use Rattle.memory.specs.Place.{place_of}
use Rattle.memory.specs.declared.Place.TheVariants.{Ram}
use Rattle.memory.proofs.Laws.{ram_fits_lem}
use Rattle.memory.proofs.store_bytes.Goals as goal

pub overflow_add-e : goal.overflow_add-e
overflow_add-e c =
    let is_ram : let a = c.args in place_of (length a.ram.now) (length a.rom.now) a.address a.n ≡ Ram c.in-Ram.o = sym c.find.ensures ∙ c.in-Ram.is in
    omega (arith, (ram_fits_lem _ _ _ _ _ is_ram).1)

pub slice_bounds-write-end : goal.slice_bounds-write-end
slice_bounds-write-end c =
    let is_ram : let a = c.args in place_of (length a.ram.now) (length a.rom.now) a.address a.n ≡ Ram c.in-Ram.o = sym c.find.ensures ∙ c.in-Ram.is in
    (ram_fits_lem _ _ _ _ _ is_ram).1

pub returns-in-Ram : goal.returns-in-Ram
returns-in-Ram c =
    let is_ram : let a = c.args in place_of (length a.ram.now) (length a.rom.now) a.address a.n ≡ Ram c.in-Ram.o = sym c.find.ensures ∙ c.in-Ram.is in
    let w = c in
    let k = w in
    let a = k.args in
    let fits = (ram_fits_lem _ _ _ _ _ is_ram).1 in
    rw is_ram record { value = refl; ram_after = written k.in-Ram.o a.n a.v a.ram.now w.write.new.part fits w.write.ensures }

pub returns-in-Rom : goal.returns-in-Rom
returns-in-Rom c = rw (sym c.find.ensures ∙ c.in-Rom.is) record { value = refl; ram_after = refl }

pub returns-in-Missing : goal.returns-in-Missing
returns-in-Missing c = rw (sym c.find.ensures ∙ c.in-Missing.is) record { value = refl; ram_after = refl }
