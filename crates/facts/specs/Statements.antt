-- What a user may hold each call to. Each statement is proved in proofs/Statements.antt or proofs/Shown.antt.
use Rattle.std.specs.Prelude.{ℕ, ◌<◌, ◌≤◌, ◌^◌, ◌≡◌, List, [], ◌++◌, true, false, ◌⊎◌, length, Ok, Err}
use Rattle.answer.specs.declared.Why.{Why}
use Rattle.answer.specs.Number.{why_number}
use Rattle.answer.specs.declared.Why.TheVariants.{TooLong, Invalid, NoCode, Unlisted, Undefined, Missing}
use Rattle.little.specs.declared.Size.{Size}
use Rattle.memory.specs.{Access.code_at, Access.stands_at, Place.place_of}
use Rattle.state.specs.{declared.State.State, State.valid_of, State.zero_state, Sound.Sound}
use Rattle.code.specs.{declared.Form.Form, declared.Op.TheVariants.Blocks, declared.Operand.Operand, declared.Instruction.Instruction}
use Rattle.code.specs.Listed.{decode_of}
use Rattle.exec.specs.Exec.{past_of, effect_of}
use Rattle.step.specs.{declared.Stepped.Stepped, Result.refused_with, Step.step_of, Step.StepMeets, Show.shown_of}
use Rattle.step.specs.{Show.show_answer_of, Show.shown_from, Show.ShowMeets, Show.ShowAnswerMeets, Reset.reset_of, Reset.ResetMeets}
use Rattle.facts.specs.Touched.{uses_marked, read_of, stored_of, operands_answer, answer_by, KeepsRest}
use Rattle.operand.specs.Try.{and_then}
use Rattle.block.specs.Block.{round_of, ends_at}
use Rattle.answer.specs.Number.{Answer}
use Rattle.code.specs.declared.Unread.TheVariants as unread

infix 5 ◌⇔◌
-- each of two follows from the other
abbrev pub ◌⇔◌ : Type 0 → Type 0 → Type 0
a ⇔ b = (a → b) × (b → a)

-- a refused step returns the state that it was given, RAM is unchanged, and its number is one of 1 to 6, or 8
abbrev pub RefusedChangesNothing : Type 0
RefusedChangesNothing =
    (s : State) (ram rom : List ℕ) (w : Why) → (step_of s ram rom).answer ≡ Err w →
    ((step_of s ram rom).state ≡ s) × ((step_of s ram rom).ram ≡ ram) × (1 ≤ why_number w) × ((why_number w ≤ 6) ⊎ (why_number w ≡ 8))

-- both memories are within their limits
abbrev pub Within : List ℕ → List ℕ → Type 0
Within ram rom = (length ram ≤ 2 ^ 16) × (length rom ≤ 2 ^ 16)

-- the checks 1 and 2 are passed
abbrev pub Passed : State → List ℕ → List ℕ → Type 0
Passed s ram rom = Within ram rom × (valid_of s ≡ true)

-- each number is given in its stated case and in no other; 8 by the marks of the flags that a whole instruction uses, 5 and 6, and their
-- addresses, by where its operands lie
pub record RefusedWhen (s : State) (ram rom : List ℕ) : Type 0 where
  pub one : ((step_of s ram rom).answer ≡ Err TooLong) ⇔ ((2 ^ 16 < length ram) ⊎ (2 ^ 16 < length rom))
  pub two : ((step_of s ram rom).answer ≡ Err Invalid) ⇔ (Within ram rom × (valid_of s ≡ false))
  pub three : ((step_of s ram rom).answer ≡ Err NoCode) ⇔ (Passed s ram rom × (decode_of (code_at ram rom s.counter) ≡ Err unread.Short))
  pub four : ((step_of s ram rom).answer ≡ Err Unlisted) ⇔ (Passed s ram rom × (decode_of (code_at ram rom s.counter) ≡ Err unread.Unlisted))
  pub eight :
      ((step_of s ram rom).answer ≡ Err Undefined)
      ⇔ (Passed s ram rom × ((i : Instruction) × (decode_of (code_at ram rom s.counter) ≡ Ok i) × (uses_marked i.op s ≡ true)))
  pub operands :
      (i : Instruction) → Passed s ram rom → decode_of (code_at ram rom s.counter) ≡ Ok i →
      (step_of s ram rom).answer
      ≡ answer_by (uses_marked i.op s)
      (operands_answer ram rom (read_of i.op i.size i.operand (past_of i.length s)) (stored_of i.op i.size i.operand (past_of i.length s)))

-- an accepted step gives a valid state and keeps RAM's length; a state whose numbers fit stays so
abbrev pub KeepsValid : Type 0
KeepsValid =
    (s : State) (ram rom : List ℕ) → (step_of s ram rom).answer ≡ Ok tt →
    (valid_of (step_of s ram rom).state ≡ true) × (length (step_of s ram rom).ram ≡ length ram) × (Sound s → Sound (step_of s ram rom).state)

-- an accepted step changes no byte of RAM outside the part that its instruction stores to
abbrev pub StoresOnlyThere : Type 0
StoresOnlyThere =
    (s : State) (ram rom : List ℕ) (i : Instruction) → (step_of s ram rom).answer ≡ Ok tt →
    decode_of (code_at ram rom s.counter) ≡ Ok i →
    KeepsRest (stored_of i.op i.size i.operand (past_of i.length s)) ram (step_of s ram rom).ram

-- any two results that meet what a call promises are the same, and so is RAM after them; a part that is shown stands in one place
pub record Settled (s : State) (ram rom : List ℕ) (at : ℕ) : Type 0 where
  pub step : (r q : Stepped) (m n : List ℕ) → StepMeets s ram rom r m → StepMeets s ram rom q n → (r ≡ q) × (m ≡ n)
  pub show :
      (p q : ℕ × ℕ) (a b : List ℕ) (v w : ℕ × ℕ) → ShowMeets ram rom at p q a v → ShowMeets ram rom at p q b w → (a ≡ b) × (v ≡ w)
  pub show_answer : (a b : Answer) → ShowAnswerMeets ram rom at a → ShowAnswerMeets ram rom at b → a ≡ b
  pub reset : (r q : Stepped) → ResetMeets ram rom r → ResetMeets ram rom q → r ≡ q

-- what is shown stands at the address: the code there begins with it, and it is a part of the memory that holds it
abbrev pub ShownStands : Type 0
ShownStands =
    (ram rom : List ℕ) (at : ℕ) (p q : ℕ × ℕ) → show_answer_of ram rom at ≡ Ok tt →
    ((rest : List ℕ) × (shown_of ram rom at ++ rest ≡ code_at ram rom at))
    × (shown_from ram rom at p q ≡ stands_at (place_of (length ram) (length rom) at 1) p q)

-- a refusal shows an empty part of ROM
abbrev pub RefusedShowsNone : Type 0
RefusedShowsNone =
    (ram rom : List ℕ) (at : ℕ) (p q : ℕ × ℕ) (w : Why) → show_answer_of ram rom at ≡ Err w →
    (shown_of ram rom at ≡ []) × (shown_from ram rom at p q ≡ q)

-- within the limits, reset is refused with 5, the vector's address and the all-zero state where ROM is shorter than 256 bytes; else it is done
abbrev pub ResetMissing : Type 0
ResetMissing =
    (ram rom : List ℕ) → Within ram rom →
    (length rom < 256 → reset_of ram rom ≡ refused_with zero_state (Missing 0xFFFF00)) × (256 ≤ length rom → (reset_of ram rom).answer ≡ Ok tt)

-- the single form of a repeating one: LDI of LDIR, LDD of LDDR, CPI of CPIR, CPD of CPDR
unfoldable pub single : Form → Form
single f = record { copies = f.copies; size = f.size; up = f.up; again = false; to = f.to; from = f.from }

-- the single form does one round; a repeating one does what its single form does, but for the counter
abbrev pub RoundIsSingle : Type 0
RoundIsSingle =
    (f : Form) (z : Size) (o : Operand) (at : ℕ) (s : State) (ram rom : List ℕ) →
    (effect_of (Blocks (single f)) z o at s ram rom ≡ round_of f s ram rom)
    × (effect_of (Blocks f) z o at s ram rom ≡ and_then (effect_of (Blocks (single f)) z o at s ram rom) (ends_at f at))
