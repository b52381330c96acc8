-- Which byte is told with 5, and which with 6. Each statement is proved in proofs/Where.antt.
use Rattle.std.specs.Prelude.{ℕ, ◌+◌, ◌<◌, ◌≤◌, ◌%◌, ◌^◌, ◌≡◌, ◌⊎◌, List, length, Err, Ok}
use Rattle.answer.specs.declared.{Why.TheVariants.Missing, Why.TheVariants.ToRom}
use Rattle.memory.specs.Access.{code_at}
use Rattle.state.specs.declared.State.{State}
use Rattle.code.specs.{declared.Instruction.Instruction, Listed.decode_of}
use Rattle.exec.specs.Exec.{past_of}
use Rattle.step.specs.Step.{step_of}
use Rattle.facts.specs.Touched.{bytes, read_of, stored_of}

-- RAM holds the byte at x; ROM does. Said by the addresses alone, so that this file can be read by itself
abbrev pub InRam : List ℕ → ℕ → Type 0
InRam ram x = x < length ram

abbrev pub InRom : List ℕ → ℕ → Type 0
InRom rom x = (2 ^ 24 ≤ x + length rom) × (x < 2 ^ 24)

-- one memory holds the bytes at x and at y
abbrev pub Together : List ℕ → List ℕ → ℕ → ℕ → Type 0
Together ram rom x y = (InRam ram x × InRam ram y) ⊎ (InRom rom x × InRom rom y)

-- x is the first of n bytes at a that is not in one memory with the first byte, so many places on from it.
-- Where the first byte lies in neither memory, that is the first byte. After FFFFFFH comes 000000H
pub record FirstApart (ram rom : List ℕ) (a n x : ℕ) : Type 0 where
  pub places : ℕ
  pub inside : places < n
  pub address : x ≡ (a + places) % 2 ^ 24
  pub apart : Together ram rom a x → ⊥
  pub before : (j : ℕ) → j < places → Together ram rom a ((a + j) % 2 ^ 24)

-- there is only one such byte
abbrev pub OneApart : Type 0
OneApart = (ram rom : List ℕ) (a n x y : ℕ) → FirstApart ram rom a n x → FirstApart ram rom a n y → x ≡ y

-- the instruction at the counter reads n bytes at a; it stores n bytes there
abbrev pub Reads : State → List ℕ → List ℕ → ℕ → ℕ → Type 0
Reads s ram rom a n =
    (i : Instruction) × (decode_of (code_at ram rom s.counter) ≡ Ok i)
    × (read_of i.op i.size i.operand (past_of i.length s) ≡ bytes a n)

abbrev pub Stores : State → List ℕ → List ℕ → ℕ → ℕ → Type 0
Stores s ram rom a n =
    (i : Instruction) × (decode_of (code_at ram rom s.counter) ≡ Ok i)
    × (stored_of i.op i.size i.operand (past_of i.length s) ≡ bytes a n)

-- a step refused with 5 tells such a byte of what it reads, or of what it would store to; which of the two, RefusedWhen says (`operands`)
abbrev pub FiveTells : Type 0
FiveTells =
    (s : State) (ram rom : List ℕ) (x : ℕ) → (step_of s ram rom).answer ≡ Err (Missing x) →
    (a : ℕ) × (n : ℕ) × (Reads s ram rom a n ⊎ Stores s ram rom a n) × FirstApart ram rom a n x

-- a step refused with 6 tells the first byte of what it would store to, and ROM holds it
abbrev pub SixTells : Type 0
SixTells =
    (s : State) (ram rom : List ℕ) (x : ℕ) → (step_of s ram rom).answer ≡ Err (ToRom x) → (n : ℕ) × Stores s ram rom x n × InRom rom x
