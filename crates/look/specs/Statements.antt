-- What the call promises, and that this settles it.
use Rattle.std.specs.Prelude.{ℕ, ◌≡◌, List, length}
use Rattle.answer.specs.Number.{number_of}
use Rattle.step.specs.Show.{show_answer_of, shown_of}

-- the promise, of its number and of the length
abbrev pub CShowMeets : List ℕ → List ℕ → ℕ → ℕ → ℕ → Type 0
CShowMeets ram rom at number size =
    (number ≡ number_of (show_answer_of ram rom at)) × (size ≡ length (shown_of ram rom at))

-- two outcomes that meet the promise are the same
abbrev pub Settled : Type 0
Settled =
    (ram rom : List ℕ) (at n n' l l' : ℕ) → CShowMeets ram rom at n l → CShowMeets ram rom at n' l' → (n ≡ n') × (l ≡ l')
