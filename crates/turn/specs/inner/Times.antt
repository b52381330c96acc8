-- Several steps in one call.
use Rattle.std.specs.Prelude.{ℕ, Bool, zero, suc, ◌+◌, ◌%◌, ◌^◌, ◌≤◌, ◌≡◌, List, cond, eqb, Ok, Err}
use Rattle.memory.specs.Access.{code_at}
use Rattle.state.specs.{declared.State.State, inner.Lent.standing_at}
use Rattle.operand.specs.Try.{Try, did, no}
use Rattle.turn.specs.Once.{once_of}
use Rattle.answer.specs.Number.{Answer}

-- what is tried after a step that is done
abbrev pub onward : Try → (State → List ℕ → Try) → Try
onward (did s ram) f = f s ram
onward (no w) f = no w

-- k steps, all of them done
unfoldable pub times_of : ℕ → State → List ℕ → List ℕ → Try
times_of zero s ram rom = did s ram
times_of (suc k) s ram rom = onward (times_of k s ram rom) (λ t m. once_of t m rom)

-- A call may do m steps more than the one it is asked for, and leaves n of them: no more than there were, and where it is
-- refused, all.
abbrev pub Fewer : Answer → ℕ → ℕ → Type 0
Fewer (Ok _) m n = n ≤ m
Fewer (Err w) m n = n ≡ m

-- how many rounds more one call can do: only a form that stays what it is goes on in it
abbrev pub most_rounds : Bool → ℕ → ℕ
most_rounds stays more = cond stays more 0

-- What stands at the address `at`, and will while the bytes there are the same, does this to a state whose counter is past it.
abbrev pub Stands : ℕ → ℕ → List ℕ → List ℕ → (State → List ℕ → Try) → Type 0
Stands at past ram rom does =
    (m : List ℕ) → code_at m rom at ≡ code_at ram rom at → (s : State) → once_of (standing_at s at) m rom ≡ does (standing_at s past) m

-- the counter past the code byte that named a register, where there was one
abbrev pub past_name : ℕ → ℕ → ℕ
past_name n counter = cond (eqb n 0) counter ((counter + n) % 2 ^ 24)
