-- What EI does to the interrupt level, and which steps touch the nesting count (request K8). Each statement is proved in proofs/Levels.antt.
use Rattle.std.specs.Prelude.{ℕ, ◌<◌, ◌≤◌, ◌≡◌, List, ◌∷◌, Ok, Err}
use Rattle.answer.specs.declared.Why.TheVariants.{Unlisted}
use Rattle.memory.specs.Access.{code_at}
use Rattle.state.specs.{declared.State.State, State.nested}
use Rattle.code.specs.{declared.Instruction.Instruction, declared.Op.TheVariants.Interrupts, declared.Interrupt.TheVariants.Reti}
use Rattle.operand.specs.{Try.after, Round.less}
use Rattle.exec.specs.Exec.{past_of}
use Rattle.step.specs.Step.{step_of}
use Rattle.facts.specs.{Statements.Passed, Marks.DoneAt}

-- with n 00 to 07 the level is n, and nothing else changes but the counter, which is past both bytes; with 08 and above it is refused with 4
abbrev pub EiSets : Type 0
EiSets =
    (s : State) (ram rom rest : List ℕ) (n : ℕ) → Passed s ram rom → code_at ram rom s.counter ≡ 0x06 ∷ n ∷ rest →
    (n < 8 → step_of s ram rom ≡ after (Ok tt) (nested (past_of 2 s) n s.nesting) ram)
    × (8 ≤ n → step_of s ram rom ≡ after (Err Unlisted) s ram)

-- RETI takes one off the nesting count, round at 16 bits, and no other step touches it
abbrev pub StepCounts : Type 0
StepCounts =
    (s : State) (ram rom : List ℕ) (i : Instruction) → DoneAt s ram rom i →
    (i.op ≡ Interrupts Reti → (step_of s ram rom).state.nesting ≡ less 16 s.nesting 1)
    × ((i.op ≡ Interrupts Reti → ⊥) → (step_of s ram rom).state.nesting ≡ s.nesting)
