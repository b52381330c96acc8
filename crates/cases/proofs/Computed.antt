-- How a table's runs, and its histories, are computed: all that they rest on, opened in one place.
use Prim.Native.Nat.{ℕ}
use mathlib.Core.Path.{◌≡◌, ap}
use mathlib.Core.List.{List, [], ◌∷◌, map}
use Rattle.little.specs.Bytes.{value_of, bytes_from, replaced}
use Rattle.memory.specs.Place.{first_without, missing_of, place_of}
use Rattle.memory.specs.Access.{load_of, store_of, ram_after, code_at}
use Rattle.state.specs.State.{zero_state, reset_state, valid_of, long_of, with_long, with_counter, with_bank, with_level, with_nesting, with_both_flags, with_flags}
use Rattle.state.specs.Register.{get_bits, set_bits, slot_in, set_slot, slot_of, register_at, set_register}
use Rattle.state.specs.Named.{byte_named, named, held_in, with_held}
use Rattle.flags.specs.Flag.{byte_of, packed_of, flags_of}
use Rattle.flags.specs.Condition.{basic, holds_of, reads_v, reads_marked}
use Rattle.alu.specs.Parity.{ones_of, even_ones}
use Rattle.flags.specs.Sums.{result_of, sum_of, difference_of}
use Rattle.alu.specs.Logic.{plain, and_of, or_of, xor_of}
use Rattle.alu.specs.Operation.{operated}
use Rattle.alu.specs.Shift.{places_of, shift_by, shift_of}
use Rattle.alu.specs.Count.{inc_of, dec_of}
use Rattle.alu.specs.Extend.{extz_of, exts_of}
use Rattle.feed.specs.Scale.{mul_of, muls_of, div_of, divs_of}
use Rattle.feed.specs.Cycle.{minc_of, mdec_of, is_power, is_table}
use Rattle.code.specs.Said.{number_at, judge}
use Rattle.code.specs.Rows.{lookup}
use Rattle.code.specs.Registers.{places_rows, last_rows, table_rows, feed_rows, register_rows}
use Rattle.code.specs.Memory.{memory_rows, store_rows, copies, compares, blocks, indirect_rows}
use Rattle.code.specs.Listed.{up_to_seven_rows, bank_rows, flag_rows, constant_rows, stack_rows, jump_rows, relative_rows, interrupt_rows, register_form_rows, absolute_rows, memory_form_rows, memory_at_rows, store_form_rows, named_form_rows, code_byte_rows, alone_rows, memory_first_rows, first_rows, decode_of}
use Rattle.operand.specs.Operand.{address_in, value_in, storing}
use Rattle.stack.specs.Stack.{push_of, push_f_of, pop_of, stack_of}
use Rattle.interrupt.specs.Interrupt.{with_sr, push_sr_of, returned, interrupt_of}
use Rattle.operand.specs.Flag.{flagged}
use Rattle.control.specs.Control.{jump_of, control_of}
use Rattle.block.specs.Block.{counted, moved, copied, compared, round_of, goes_on, ends_at}
use Rattle.compute.specs.Compute.{scaled_at, puts_of}
use Rattle.exec.specs.Exec.{past_of, effect_of, executed_of}
use Rattle.turn.specs.Once.{once_of}
use Rattle.step.specs.Step.{guarded, try_of}
use Rattle.turn.specs.Many.{Result, ends, many_of}
use Rattle.run.specs.Run.{run_of}
use Rattle.request.specs.Request.{takes, entered, offered_of, request_of, took_of}
use Rattle.between.specs.History.{taking, history_of, counted_in}
use Rattle.operand.specs.Try.{Try}
use Rattle.cases.specs.Table.{Case, ComesOut, Tale, TaleHolds, OfEach, begin}

-- what the run of a row leaves, and what the row says of it
unfoldable pub left : Case → Result
unfolding begin value_of bytes_from replaced first_without missing_of place_of load_of store_of ram_after code_at zero_state reset_state valid_of long_of with_long with_counter with_bank with_level with_nesting with_both_flags with_flags get_bits set_bits slot_in set_slot slot_of register_at set_register byte_named named held_in with_held byte_of packed_of flags_of basic holds_of reads_v reads_marked ones_of even_ones result_of sum_of difference_of plain and_of or_of xor_of operated places_of shift_by shift_of inc_of dec_of extz_of exts_of mul_of muls_of div_of divs_of minc_of mdec_of is_power is_table number_at judge lookup places_rows last_rows table_rows feed_rows register_rows memory_rows store_rows copies compares blocks indirect_rows up_to_seven_rows bank_rows flag_rows constant_rows stack_rows jump_rows relative_rows interrupt_rows register_form_rows absolute_rows memory_form_rows memory_at_rows store_form_rows named_form_rows code_byte_rows alone_rows memory_first_rows first_rows decode_of address_in value_in storing push_of push_f_of pop_of flagged jump_of counted moved copied compared round_of goes_on ends_at past_of control_of stack_of with_sr push_sr_of returned interrupt_of scaled_at puts_of effect_of executed_of guarded once_of try_of many_of run_of
left c = run_of c.steps c.start.state c.start.ram c.rom

unfoldable pub said : Case → Result
said c = ends c.done c.after.state c.after.ram c.answer

-- a table whose runs compute to what its rows say
pub each : (l : List Case) → map left l ≡ map said l → OfEach ComesOut l
unfolding left said
each [] e = tt
each (c ∷ l) e = let h : left c ≡ said c = cc in let t : map left l ≡ map said l = cc in (h, each l t)

-- the same of histories: a step of one rests on all that a run rests on
unfoldable pub came : Tale → Try × ℕ
unfolding left takes entered offered_of request_of took_of history_of counted_in
came t =
    (history_of t.events t.start.state t.start.ram t.rom, counted_in taking t.events t.start.state t.start.ram t.rom)

unfoldable pub told : Tale → Try × ℕ
told t = (t.outcome, t.taken)

tells : (t : Tale) → came t ≡ told t → TaleHolds t
unfolding came told
tells t h = (ap (λ (p : Try × ℕ). p.0) h, ap (λ (p : Try × ℕ). p.1) h)

pub each_tale : (l : List Tale) → map came l ≡ map told l → OfEach TaleHolds l
each_tale [] e = tt
each_tale (t ∷ l) e = let h : came t ≡ told t = cc in let r : map came l ≡ map told l = cc in (tells t h, each_tale l r)
