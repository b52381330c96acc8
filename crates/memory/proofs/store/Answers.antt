-- `memory::store` meets its contract: by the arms of the size.
use mathlib.Core.Path.{refl, ◌∙◌}
use Rattle.memory.specs.Access.{store_of, ram_after}
use Rattle.memory.proofs.store.Goals as goal

pub returns-in-Byte : goal.returns-in-Byte
unfolding store_of ram_after
returns-in-Byte c =
    let w = c in
    let arm = w.in-Byte.is in
    record { value = w.store_bytes.ensures.value ∙ rw arm refl; ram_after = w.store_bytes.ensures.ram_after ∙ rw arm refl }

pub returns-in-Word : goal.returns-in-Word
unfolding store_of ram_after
returns-in-Word c =
    let w = c in
    let arm = w.in-Word.is in
    record { value = w.store_bytes-in-Word.ensures.value ∙ rw arm refl; ram_after = w.store_bytes-in-Word.ensures.ram_after ∙ rw arm refl }

pub returns-in-Long : goal.returns-in-Long
unfolding store_of ram_after
returns-in-Long c =
    let w = c in
    let arm = w.in-Long.is in
    record { value = w.store_bytes-in-Long.ensures.value ∙ rw arm refl; ram_after = w.store_bytes-in-Long.ensures.ram_after ∙ rw arm refl }
