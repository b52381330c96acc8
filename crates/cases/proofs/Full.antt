-- BC 0 with memories of 65,536 bytes: the starts meet what demand 3 supposes. The tests would be too long to compute, so laws do it.
use Prim.Native.Nat.{ℕ, zero, suc, ◌+◌, ◌-◌, ◌*◌, ◌%◌, ◌^◌, ◌<◌, ◌≤◌}
use mathlib.Core.Path.{◌≡◌, refl, ap, sym, ◌∙◌}
use mathlib.Core.Logic.{inl}
use mathlib.Core.List.{List, [], ◌∷◌}
use native.Mathlib.Omega.{arith}
use native.Mathlib.Nat.{mod-eq_of_lt, mul-one, zero-add}
use lib.ListN.{length, get_or, take, drop, get_or-replicate}
use Rattle.little.specs.declared.Size.TheVariants.{Byte}
use Rattle.little.specs.Bytes.{value_of}
use Rattle.memory.specs.Place.{place_of, Present}
use Rattle.memory.specs.Access.{load_of, load_from, code_at}
use Rattle.memory.specs.declared.Place.{Place}
use Rattle.memory.specs.declared.Place.TheVariants.{Ram, Rom}
use Rattle.memory.proofs.Laws.{place_ram, place_rom}
use Rattle.state.specs.State.{reset_state, valid_of, long_of, with_long, with_counter, with_both_flags, with_flags}
use Rattle.state.specs.Register.{get_bits, set_bits, slot_in, set_slot, slot_of, register_at, get_register, set_register}
use Rattle.state.proofs.Sound.{fits}
use Rattle.code.specs.Said.{judge}
use Rattle.code.specs.Rows.{lookup}
use Rattle.code.specs.Memory.{memory_rows, copies, compares, blocks, indirect_rows}
use Rattle.code.specs.Listed.{bank_rows, flag_rows, constant_rows, stack_rows, jump_rows, relative_rows, interrupt_rows, register_form_rows, absolute_rows, memory_form_rows, memory_at_rows, store_form_rows, alone_rows, memory_first_rows, first_rows, decode_of}
use Rattle.run.specs.Demand.{At, Spares, EqualAt, Passes, at_count, count_of, passed, element_of, target_of, element_place}
use Rattle.cases.specs.Table.{machine, begin}
use Rattle.cases.specs.Evidence.{ldir, cpir, full_ram, full_rom, seek_rom, full_copy, full_seek, StartMet, tells}
use Rattle.cases.proofs.Tests.{at_by}
use Rattle.std.proofs.Common.{Ok}

-- ---- the memories and the registers
full_ram_lem : length full_ram ≡ 65536
unfolding full_ram
full_ram_lem = refl

full_rom_lem : length full_rom ≡ 65536
unfolding full_rom
full_rom_lem = refl

full_zero : (i : ℕ) → i < 65536 → get_or full_ram i 0 ≡ 0
unfolding full_ram
full_zero i h = get_or-replicate 65536 i 0 0 h

copy_count : count_of full_copy ≡ 65536
unfolding count_of full_copy begin reset_state long_of with_long with_counter with_both_flags with_flags get_bits set_bits slot_in set_slot slot_of register_at set_register
copy_count = refl

seek_count : count_of full_seek ≡ 65536
unfolding count_of full_seek begin reset_state long_of with_long with_counter with_both_flags with_flags get_bits set_bits slot_in set_slot slot_of register_at set_register
seek_count = refl

copy_at : At ldir full_copy full_ram full_rom
unfolding fits full_ram full_rom full_copy begin reset_state valid_of long_of with_long with_counter with_both_flags with_flags get_bits set_bits slot_in set_slot slot_of register_at set_register place_of code_at judge lookup memory_rows copies compares blocks indirect_rows bank_rows flag_rows constant_rows stack_rows jump_rows relative_rows interrupt_rows register_form_rows absolute_rows memory_form_rows memory_at_rows store_form_rows alone_rows memory_first_rows first_rows decode_of
copy_at = at_by ldir full_copy full_ram full_rom tt refl refl refl

seek_at : At cpir full_seek full_ram seek_rom
unfolding fits full_ram seek_rom full_seek begin reset_state valid_of long_of with_long with_counter with_both_flags with_flags get_bits set_bits slot_in set_slot slot_of register_at set_register place_of code_at judge lookup memory_rows copies compares blocks indirect_rows bank_rows flag_rows constant_rows stack_rows jump_rows relative_rows interrupt_rows register_form_rows absolute_rows memory_form_rows memory_at_rows store_form_rows alone_rows memory_first_rows first_rows decode_of
seek_at = at_by cpir full_seek full_ram seek_rom tt refl refl refl

-- ---- the elements and the targets
near : (x i : ℕ) → x + i < 2 ^ 24 → (x + i * 1) % 2 ^ 32 % 2 ^ 24 ≡ x + i
near x i h =
    let k : x + i < 2 ^ 32 = omega arith in
    ap (λ (n : ℕ). (x + n) % 2 ^ 32 % 2 ^ 24) (mul-one i)
    ∙ ap (λ (n : ℕ). n % 2 ^ 24) (mod-eq_of_lt k)
    ∙ mod-eq_of_lt h

copy_element : (i : ℕ) → i < 65536 → element_of ldir full_copy i ≡ 0xFF0000 + i
unfolding passed full_copy begin reset_state long_of with_long with_counter with_both_flags with_flags get_bits set_bits slot_in set_slot slot_of register_at set_register
copy_element i h = near 0xFF0000 i (omega arith)

copy_target : (i : ℕ) → i < 65536 → target_of ldir full_copy i ≡ i
unfolding passed full_copy begin reset_state long_of with_long with_counter with_both_flags with_flags get_bits set_bits slot_in set_slot slot_of register_at set_register
copy_target i h = near 0 i (omega arith) ∙ zero-add i

seek_element : (i : ℕ) → i < 65536 → element_of cpir full_seek i ≡ i
unfolding passed full_seek begin reset_state long_of with_long with_counter with_both_flags with_flags get_bits set_bits slot_in set_slot slot_of register_at set_register
seek_element i h = near 0 i (omega arith) ∙ zero-add i

copy_there : (i : ℕ) → i < 65536 → Present (element_place ldir full_copy full_ram full_rom i)
copy_there i h x e =
    let p : place_of (length full_ram) (length full_rom) (element_of ldir full_copy i) 1 ≡ Rom (0xFF0000 + i + 65536 - 2 ^ 24) =
    rw (full_ram_lem, full_rom_lem, copy_element i h) (place_rom 65536 65536 (0xFF0000 + i) 1 (omega arith) (omega arith) (omega arith)) in
    let z : ◌≡◌ {A = ℕ} 0 1 = cc in
    omega arith

copy_writable : (i : ℕ) → i < 65536 → target_of ldir full_copy i + 1 ≤ length full_ram
copy_writable i h = rw (full_ram_lem, copy_target i h) (omega arith)

copy_counter : full_copy.counter ≡ 0xFF0000
unfolding full_copy begin reset_state with_long with_counter with_both_flags set_slot set_register
copy_counter = refl

copy_spares : Spares ldir full_copy 65536
copy_spares c i h = inl (rw (copy_target i h, copy_counter) (omega arith))

seek_place : (i : ℕ) → i < 65536 → place_of (length full_ram) (length seek_rom) (element_of cpir full_seek i) 1 ≡ Ram i
seek_place i h = rw (full_ram_lem, seek_element i h) (place_ram 65536 (length seek_rom) i 1 (omega arith))

seek_there : (i : ℕ) → i < 65536 → Present (element_place cpir full_seek full_ram seek_rom i)
seek_there i h x e =
    let p = seek_place i h in
    let z : ◌≡◌ {A = ℕ} 0 1 = cc in
    omega arith

first_of : (l : List ℕ) (i : ℕ) → value_of (take 1 (drop i l)) ≡ get_or l i 0
unfolding value_of
first_of [] zero = refl
first_of [] (suc i) = refl
first_of (x ∷ l) zero = omega arith
first_of (x ∷ l) (suc i) = first_of l i

seek_loads : (i : ℕ) → i < 65536 → load_of full_ram seek_rom (element_of cpir full_seek i) Byte ≡ Ok 0
unfolding load_of
seek_loads i h = ap (λ (p : Place). load_from p full_ram seek_rom 1) (seek_place i h) ∙ ap Ok (first_of full_ram i ∙ full_zero i h)

seek_one : get_register full_seek Byte 1 ≡ 1
unfolding full_seek begin reset_state long_of with_long with_counter with_both_flags with_flags get_bits set_bits slot_in set_slot slot_of register_at set_register
seek_one = refl

seek_none : (i : ℕ) → i < 65536 → EqualAt cpir full_seek full_ram seek_rom i → ⊥
seek_none i h q =
    let a = sym (seek_loads i h) ∙ q.1 ∙ ap Ok seek_one in
    let z : ◌≡◌ {A = ℕ} 0 1 = cc in
    omega arith

copy_passes : Passes ldir full_copy full_ram full_rom 65536
copy_passes i h = (
  copy_there i h,
  (λ c. copy_writable i h),
  λ q. let b = q.0 in let z : ◌≡◌ {A = ℕ} 0 1 = cc in omega arith,
)

seek_passes : Passes cpir full_seek full_ram seek_rom 65536
seek_passes i h = (seek_there i h, (λ c. let z : ◌≡◌ {A = ℕ} 0 1 = cc in absurd (omega arith)), seek_none i h)

pub copy_met : StartMet (tells ldir (machine full_copy full_ram) full_rom at_count 65536)
copy_met = (copy_at, rw copy_count copy_passes, copy_count, copy_spares)

pub seek_met : StartMet (tells cpir (machine full_seek full_ram) seek_rom at_count 65536)
seek_met = (seek_at, rw seek_count seek_passes, seek_count, λ c. let z : ◌≡◌ {A = ℕ} 0 1 = cc in absurd (omega arith))
