-- A register form by the code of its register: each proved in proofs/ByCode.antt.
use Rattle.std.specs.Prelude.{ℕ, ◌+◌, ◌%◌, ◌^◌, ◌<◌, ◌≡◌, List, ◌∷◌}
use Rattle.little.specs.declared.Size.{Size}
use Rattle.state.specs.{declared.State.State, State.with_counter, Named.code_for}
use Rattle.code.specs.{Listed.decode_of, Written.size_step}
use Rattle.exec.specs.Exec.{done}

-- C8+r, D8+r or E8+r, and C7, D7 or E7 with the code of r one byte before: whatever follows, the same is done or refused, in every bank,
-- and the counter is the same after it
abbrev pub SameByCode : Type 0
SameByCode =
    (z : Size) (r : ℕ) (rest : List ℕ) (s : State) (before : ℕ) (ram rom : List ℕ) → r < 8 → s.counter ≡ (before + 1) % 2 ^ 24 →
    done (decode_of ((0xC7 + size_step z) ∷ code_for z r ∷ rest)) (with_counter s before) ram rom ≡ done (decode_of ((0xC8 + size_step z + r) ∷ rest)) s ram rom
