-- What a user may hold an offer to. Each statement is proved in proofs/Statements.antt.
use Rattle.std.specs.Prelude.{ℕ, ◌<◌, ◌≤◌, ◌≡◌, ◌↔◌, List, true, false}
use Rattle.state.specs.{declared.State.State, State.valid_of}
use Rattle.request.specs.{declared.Requested.Requested, Request.takes, Request.RequestMeets}

-- two outcomes that meet what the call promises are the same
abbrev pub Settled : Type 0
Settled =
    (level address : ℕ) (s : State) (ram rom : List ℕ) (r q : Requested) (m n : List ℕ) →
    RequestMeets level address s ram rom r m → RequestMeets level address s ram rom q n → (r ≡ q) × (m ≡ n)

-- level 7 is taken whatever the mask of a valid state is, and through mask 7 no other level comes
abbrev pub SevenAlways : Type 0
SevenAlways = (s : State) → valid_of s ≡ true → takes s.level.0 7 ≡ true

abbrev pub OnlySeven : Type 0
OnlySeven = (level : ℕ) → level < 7 → takes 7 level ≡ false

-- it is taken exactly where its level is at least the mask, and at least 1, which is what mask 0 counts as
abbrev pub TakenFrom : Type 0
TakenFrom = (mask level : ℕ) → (takes mask level ≡ true) ↔ ((mask ≤ level) × (1 ≤ level))
