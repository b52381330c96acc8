-- What is put where the address of the operand is known, as the functions of compute::form promise it.
use Rattle.std.specs.Prelude.{ℕ, List, cond}
use Rattle.little.specs.declared.Size.{Size}
use Rattle.flags.specs.declared.Computed.{Computed}
use Rattle.alu.specs.declared.Arith.{Arith}
use Rattle.memory.specs.Access.{load_of}
use Rattle.code.specs.declared.Operand.TheVariants.{Register}
use Rattle.state.specs.{declared.State.State, Register.get_register, Register.set_register}
use Rattle.operand.specs.{Try.Try, Try.did, Try.with_loaded, Operand.storing, Flag.flagged}
use Rattle.compute.specs.Compute.{computed, stores_of, answer_in}

-- into the register r, and from it
abbrev pub loaded_from : ℕ → ℕ → Size → State → List ℕ → List ℕ → Try
loaded_from r at z s ram rom = with_loaded (load_of ram rom at z) (λ v. did (set_register s z r v) ram)

abbrev pub stored_to : ℕ → ℕ → Size → State → List ℕ → List ℕ → Try
stored_to r at z s ram rom = storing s ram rom at z (get_register s z r)

-- with the register as the first, which gets the result
abbrev pub first_with : Arith → ℕ → ℕ → Size → State → List ℕ → List ℕ → Try
first_with op r at z s ram rom = with_loaded (load_of ram rom at z) (λ v. answer_in op s ram rom z (Register r) (computed s op z (get_register s z r) v))

-- with the register as the second: the result goes to the address, or of CP nowhere
abbrev pub answer_to : Arith → ℕ → Size → State → List ℕ → List ℕ → Computed → Try
answer_to op at z s ram rom r = cond (stores_of op) (storing (flagged s r.flags) ram rom at z r.value) (did (flagged s r.flags) ram)

abbrev pub second_with : Arith → ℕ → ℕ → Size → State → List ℕ → List ℕ → Try
second_with op r at z s ram rom = with_loaded (load_of ram rom at z) (λ v. answer_to op at z s ram rom (computed s op z v (get_register s z r)))
