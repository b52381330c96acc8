-- What a step at LDF leaves, and what is shown of it. 17H and the byte n are taken to stand at the counter, or at the address.
use Rattle.std.specs.Prelude.{ℕ, ◌<◌, ◌≤◌, ◌%◌, ◌^◌, ◌≡◌, List, [], ◌∷◌, Ok, Err}
use Rattle.answer.specs.declared.Why.TheVariants.{Unlisted}
use Rattle.memory.specs.Access.{code_at}
use Rattle.state.specs.{declared.State.State, State.banked}
use Rattle.operand.specs.Try.{after}
use Rattle.exec.specs.Exec.{past_of}
use Rattle.step.specs.{Step.step_of, Show.show_answer_of, Show.shown_of}
use Rattle.facts.specs.Statements.{Within, Passed}

-- with n 00 to 07 the bank is the low two bits of n, and nothing else changes but the counter, which is past both bytes;
-- with 08 and above it is refused with 4
abbrev pub LdfSelects : Type 0
LdfSelects =
    (s : State) (ram rom rest : List ℕ) (n : ℕ) → Passed s ram rom → code_at ram rom s.counter ≡ 0x17 ∷ n ∷ rest →
    (n < 8 → step_of s ram rom ≡ after (Ok tt) (banked (past_of 2 s) s.registers (record { 0 = n % 4 })) ram)
    × (8 ≤ n → step_of s ram rom ≡ after (Err Unlisted) s ram)

-- with n 00 to 07 LDF n leaves the state that LDF of n modulo 4 leaves, each in memories of its own, and RAM stays as it was
abbrev pub LdfModuloFour : Type 0
LdfModuloFour =
    (s : State) (ram rom rest ram' rom' rest' : List ℕ) (n : ℕ) → n < 8 → Passed s ram rom → Passed s ram' rom' →
    code_at ram rom s.counter ≡ 0x17 ∷ n ∷ rest → code_at ram' rom' s.counter ≡ 0x17 ∷ n % 4 ∷ rest' →
    (t : State) × (step_of s ram rom ≡ after (Ok tt) t ram) × (step_of s ram' rom' ≡ after (Ok tt) t ram')

-- with n 00 to 07 its two bytes are shown; with 08 and above that is refused with 4
abbrev pub LdfShown : Type 0
LdfShown =
    (ram rom rest : List ℕ) (at n : ℕ) → Within ram rom → at < 2 ^ 24 → code_at ram rom at ≡ 0x17 ∷ n ∷ rest →
    (n < 8 → (show_answer_of ram rom at ≡ Ok tt) × (shown_of ram rom at ≡ 0x17 ∷ n ∷ []))
    × (8 ≤ n → show_answer_of ram rom at ≡ Err Unlisted)
