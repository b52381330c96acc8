-- Pushes, pops, calls and returns.
use Rattle.std.specs.Prelude.{ℕ, ◌%◌, ◌^◌, List, cond}
use Rattle.little.specs.{declared.Size.Size, declared.Size.TheVariants.Byte, declared.Size.TheVariants.Long, Width.bytes_of}
use Rattle.flags.specs.Flag.{byte_of, flags_of, any_marked}
use Rattle.memory.specs.Access.{load_bytes}
use Rattle.state.specs.{declared.State.State, State.with_counter, State.with_flags, Register.get_register, Register.set_register}
use Rattle.operand.specs.{Try.Try, Try.did, Try.no, Try.and_then, Try.with_loaded, Operand.displaced, Operand.pointer_of, Operand.storing_bytes, Flag.flags_in}
use Rattle.operand.specs.{Round.less, Round.plus}
use Rattle.answer.specs.declared.Why.TheVariants.{Undefined}
use Rattle.code.specs.{declared.Operand.Operand, declared.Stack.Stack, Written.constant_in, Written.register_in}
use Rattle.code.specs.declared.Stack.TheVariants.{PushF, PopF, Push, Pop, Call16, Call24, Calr, Ret}

-- XSP, the long register of code 7
abbrev pub with_stack : State → ℕ → State
with_stack s x = set_register s Long 7 x

-- push of n bytes: XSP less their number, then store
abbrev pub push_bytes : State → List ℕ → List ℕ → ℕ → ℕ → Try
push_bytes s ram rom n v =
    let x = less 32 (get_register s Long 7) n in
    storing_bytes (with_stack s x) ram rom (x % 2 ^ 24) n v

unfoldable pub push_of : State → List ℕ → List ℕ → Size → ℕ → Try
push_of s ram rom z v = push_bytes s ram rom (bytes_of z) v

-- PUSH F: 8 where a flag of F is marked, before the store is looked at
unfoldable pub push_f_of : State → List ℕ → List ℕ → Try
push_f_of s ram rom = cond (any_marked (flags_in s)) (no Undefined) (push_of s ram rom Byte (byte_of (flags_in s)))

-- pop of n bytes the other way: load, then XSP plus their number; what is done with the value is the rest
abbrev pub pop_bytes : State → List ℕ → List ℕ → ℕ → (State → ℕ → State) → Try
pop_bytes s ram rom n rest =
    with_loaded (load_bytes ram rom (pointer_of s 7) n)
    (λ v. did (rest (with_stack s (plus 32 (get_register s Long 7) n)) v) ram)

unfoldable pub pop_of : State → List ℕ → List ℕ → Size → (State → ℕ → State) → Try
pop_of s ram rom z rest = pop_bytes s ram rom (bytes_of z) rest

-- a call pushes the next address as four bytes; the state is past the instruction
abbrev pub call_of : State → List ℕ → List ℕ → ℕ → Try
call_of s ram rom to = and_then (push_of s ram rom Long s.counter) (λ t. with_counter t to)

-- what each does, of a size and with its operand; the state is past the instruction. POP F writes bits 5 and 3 as 0 and leaves no mark,
-- RET keeps 24 bits
unfoldable pub stack_of : Stack → Size → Operand → State → List ℕ → List ℕ → Try
stack_of PushF z o s ram rom = push_f_of s ram rom
stack_of PopF z o s ram rom = pop_of s ram rom Byte (λ t v. with_flags t (byte_of (flags_of v)))
stack_of Push z o s ram rom = push_of s ram rom z (get_register s z (register_in o))
stack_of Pop z o s ram rom = pop_of s ram rom z (λ t v. set_register t z (register_in o) v)
stack_of Call16 z o s ram rom = call_of s ram rom (constant_in o)
stack_of Call24 z o s ram rom = call_of s ram rom (constant_in o)
stack_of Calr z o s ram rom = call_of s ram rom (displaced 16 s.counter (constant_in o))
stack_of Ret z o s ram rom = pop_of s ram rom Long with_counter
