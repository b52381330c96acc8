-- What a listed instruction does: each kind of work has its own list, instruction by instruction (control/Control, stack/Stack,
-- compute/Compute, block/Block, interrupt/Interrupt).
use Rattle.std.specs.Prelude.{ℕ, ◌+◌, List, Ok, Err}
use Rattle.answer.specs.declared.Why.{TheVariants.NoCode, TheVariants.Unlisted}
use Rattle.little.specs.declared.Size.{Size}
use Rattle.code.specs.{declared.Operand.Operand, declared.Instruction.Instruction, declared.Op.Op, Written.constant_in}
use Rattle.code.specs.declared.Op.TheVariants.{Controls, Stacks, Puts, Sets, Blocks, Interrupts}
use Rattle.state.specs.{declared.State.State, State.with_counter, Register.set_register}
use Rattle.operand.specs.Try.{Try, did, no, and_then}
use Rattle.control.specs.Control.{control_of}
use Rattle.stack.specs.Stack.{stack_of}
use Rattle.compute.specs.Compute.{puts_of}
use Rattle.block.specs.Block.{round_of, ends_at}
use Rattle.interrupt.specs.Interrupt.{interrupt_of}
use Rattle.code.specs.Unread.{Decoded}
use Rattle.code.specs.declared.Unread.TheVariants as unread

-- the state past an instruction of n bytes
unfoldable pub past_of : ℕ → State → State
past_of n s = with_counter s (s.counter + n)

-- What an operation of a size does with its operand, by the kind of work. The state is past the instruction, which stands at the
-- address `at`: a repeating form that goes on has its counter there again.
unfoldable pub effect_of : Op → Size → Operand → ℕ → State → List ℕ → List ℕ → Try
effect_of (Controls what) z o at s ram rom = control_of what (constant_in o) s ram
effect_of (Stacks what) z o at s ram rom = stack_of what z o s ram rom
effect_of (Puts how) z o at s ram rom = puts_of how z o s ram rom
effect_of (Sets r) z o at s ram rom = did (set_register s z r (constant_in o)) ram
effect_of (Blocks f) z o at s ram rom = and_then (round_of f s ram rom) (ends_at f at)
effect_of (Interrupts what) z o at s ram rom = interrupt_of what s ram rom

-- an instruction at the counter of a state
unfoldable pub executed_of : Instruction → State → List ℕ → List ℕ → Try
executed_of i s ram rom = effect_of i.op i.size i.operand s.counter (past_of i.length s) ram rom

-- 3 or 4, as the bytes at the counter are judged; then the instruction
abbrev pub done : Decoded → State → List ℕ → List ℕ → Try
done (Err unread.Short) s ram rom = no NoCode
done (Err unread.Unlisted) s ram rom = no Unlisted
done (Ok i) s ram rom = executed_of i s ram rom
