-- The line is settled; document 01's example, by computation.
use mathlib.Core.Path.{refl, sym, ◌∙◌}
use Rattle.little.specs.Bytes.{value_of}
use Rattle.memory.specs.Access.{load_of, code_at}
use Rattle.memory.specs.Place.{place_of}
use Rattle.state.specs.Register.{get_bits, set_bits, slot_in, set_slot, slot_of, register_at, set_register}
use Rattle.state.specs.State.{zero_state, reset_state, valid_of, long_of, with_long, with_counter, with_both_flags, with_flags}
use Rattle.flags.specs.Flag.{byte_of, packed_of, flags_of}
use Rattle.alu.specs.Operation.{operated}
use Rattle.flags.specs.Sums.{result_of, sum_of}
use Rattle.code.specs.Listed.{up_to_seven_rows, bank_rows, flag_rows, constant_rows, stack_rows, jump_rows, relative_rows, interrupt_rows, register_form_rows, absolute_rows, memory_form_rows, memory_at_rows, store_form_rows, alone_rows, memory_first_rows, named_form_rows, first_rows, decode_of}
use Rattle.code.specs.Registers.{places_rows, register_rows}
use Rattle.code.specs.Rows.{lookup}
use Rattle.code.specs.Said.{number_at, judge}
use Rattle.control.specs.Control.{control_of}
use Rattle.stack.specs.Stack.{stack_of}
use Rattle.compute.specs.Compute.{puts_of}
use Rattle.exec.specs.Exec.{past_of, effect_of, executed_of}
use Rattle.operand.specs.Flag.{flagged}
use Rattle.operand.specs.Operand.{value_in, storing}
use Rattle.step.specs.Reset.{reset_of}
use Rattle.turn.specs.Once.{once_of}
use Rattle.step.specs.Step.{guarded, try_of}
use Rattle.turn.specs.Many.{many_of}
use Rattle.run.specs.Run.{run_of}
use Rattle.line.specs.Lines.{ran_line, line_for}
use Rattle.text.specs.Text.{hex_of, decimal_in}
use Rattle.line.specs.Statements.{Settled, ExampleLine}

pub settled : Settled
settled image r r' e f = e.0 ∙ sym f.0

pub example_line : ExampleLine
unfolding value_of load_of code_at place_of get_bits set_bits slot_in set_slot slot_of register_at set_register zero_state reset_state valid_of long_of with_long with_counter with_both_flags with_flags byte_of packed_of flags_of operated result_of sum_of up_to_seven_rows bank_rows flag_rows constant_rows stack_rows jump_rows relative_rows interrupt_rows register_form_rows absolute_rows memory_form_rows memory_at_rows store_form_rows alone_rows memory_first_rows named_form_rows first_rows decode_of places_rows register_rows lookup number_at judge past_of control_of stack_of puts_of effect_of executed_of flagged value_in storing reset_of guarded once_of try_of many_of run_of ran_line line_for hex_of decimal_in
example_line = refl
