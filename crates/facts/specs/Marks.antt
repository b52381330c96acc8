-- What a step can do with a marked flag (requests K6 and K8). Each statement is proved in proofs/Marks.antt.
use Rattle.std.specs.Prelude.{ℕ, ◌<◌, ◌≡◌, ◌⊎◌, List, true, Ok}
use Rattle.flags.specs.{declared.Flags.Flags, Flag.flags_of, Condition.holds_of, Known.Alike}
use Rattle.memory.specs.Access.{code_at}
use Rattle.state.specs.{declared.State.State, State.valid_of, State.marks_of, State.with_both_flags}
use Rattle.code.specs.{declared.Instruction.Instruction, declared.Control.Control, declared.Stack.TheVariants.PushF, declared.Interrupt.TheVariants.PushSr}
use Rattle.code.specs.{declared.Op.TheVariants.Controls, declared.Op.TheVariants.Stacks, declared.Op.TheVariants.Interrupts, Listed.decode_of}
use Rattle.operand.specs.Flag.{flags_in}
use Rattle.step.specs.Step.{step_of}
use Rattle.facts.specs.Touched.{condition_in}

-- in a valid state no flag is marked but H and V, of F and of F'
abbrev pub OnlyHAndV : Type 0
OnlyHAndV = (s : State) → valid_of s ≡ true → (marks_of s.flags < 4) × (marks_of s.spare < 4)

-- two valid states that differ at most in the bits of marked flags are the same: these bits say nothing
abbrev pub MarkedSayNothing : Type 0
MarkedSayNothing =
    (s : State) (f f' g g' : ℕ) → valid_of (with_both_flags s f f') ≡ true → valid_of (with_both_flags s g g') ≡ true →
    Alike (flags_of f) (flags_of g) → Alike (flags_of f') (flags_of g') → with_both_flags s f f' ≡ with_both_flags s g g'

-- an instruction stands at the counter, and its step is done
abbrev pub DoneAt : State → List ℕ → List ℕ → Instruction → Type 0
DoneAt s ram rom i = ((step_of s ram rom).answer ≡ Ok tt) × (decode_of (code_at ram rom s.counter) ≡ Ok i)

-- a jump that is done has read defined flags alone: its condition is the same whatever the bits of marked flags were
abbrev pub JumpReadsDefined : Type 0
JumpReadsDefined =
    (s : State) (ram rom : List ℕ) (i : Instruction) (what : Control) → DoneAt s ram rom i → i.op ≡ Controls what →
    (g : Flags) → Alike (flags_in s) g → holds_of (flags_in s) (condition_in what) ≡ holds_of g (condition_in what)

-- a PUSH F or a PUSH SR that is done stores defined flags alone
abbrev pub PushStoresDefined : Type 0
PushStoresDefined =
    (s : State) (ram rom : List ℕ) (i : Instruction) → DoneAt s ram rom i → (i.op ≡ Stacks PushF) ⊎ (i.op ≡ Interrupts PushSr) →
    (flags_in s).marks ≡ 0
