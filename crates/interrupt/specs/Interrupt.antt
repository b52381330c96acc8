-- SR on the stack, and the return from an interrupt (request K8).
use Rattle.std.specs.Prelude.{ℕ, ◌/◌, ◌%◌, ◌^◌, List, cond}
use Rattle.little.specs.declared.Size.TheVariants.{Word}
use Rattle.flags.specs.Flag.{byte_of, flags_of, any_marked}
use Rattle.state.specs.{declared.State.State, State.with_counter, State.with_bank, State.with_level, State.with_flags, State.with_nesting, Sr.sr_of, Sr.f_in}
use Rattle.answer.specs.declared.Why.TheVariants.{Undefined}
use Rattle.code.specs.declared.{Interrupt.Interrupt, Interrupt.TheVariants.PushSr, Interrupt.TheVariants.PopSr, Interrupt.TheVariants.Reti}
use Rattle.operand.specs.{Try.Try, Try.no, Flag.flags_in, Round.less}
use Rattle.stack.specs.Stack.{push_of, pop_bytes, pop_of}

-- what POP SR and RETI take of a word v: F from its low byte, without bits 5 and 3 and with no mark, the bank from bits 8 and 9,
-- the level from bits 12 to 14. Bits 15, 11 and 10 are as SR always has them
unfoldable pub with_sr : State → ℕ → State
with_sr s v = with_flags (with_bank (with_level s (v / 2 ^ 12)) (v / 2 ^ 8)) (byte_of (flags_of (f_in v)))

-- PUSH SR: 8 where a flag of F is marked, before the store is looked at
unfoldable pub push_sr_of : State → List ℕ → List ℕ → Try
push_sr_of s ram rom = cond (any_marked (flags_in s)) (no Undefined) (push_of s ram rom Word (sr_of s))

-- RETI, with the six bytes v that it pops: SR from the low two, the counter from the four above as RET takes it, one off the nesting count
unfoldable pub returned : State → ℕ → State
returned s v = with_counter (with_sr (with_nesting s (less 16 s.nesting 1)) (v % 2 ^ 16)) (v / 2 ^ 16)

-- what each does; the state is past the instruction
unfoldable pub interrupt_of : Interrupt → State → List ℕ → List ℕ → Try
interrupt_of PushSr s ram rom = push_sr_of s ram rom
interrupt_of PopSr s ram rom = pop_of s ram rom Word with_sr
interrupt_of Reti s ram rom = pop_bytes s ram rom 6 returned
