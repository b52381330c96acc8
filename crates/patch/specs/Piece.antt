-- Pieces of code, as a patcher writes them, and what they leave (request K10). The counter is left out, and the code is taken to be there.
-- Each statement is proved in proofs/Pieces.antt.
use Rattle.std.specs.Prelude.{ℕ, ◌+◌, ◌<◌, ◌≤◌, ◌^◌, ◌≡◌, List, [], ◌∷◌, ◌++◌, length, true, Ok}
use Rattle.memory.specs.Access.{code_at}
use Rattle.state.specs.{declared.State.State, State.valid_of, State.with_counter, Sound.Sound}
use Rattle.operand.specs.Try.{did}
use Rattle.turn.specs.Many.{ends}
use Rattle.step.specs.Step.{try_of}
use Rattle.facts.specs.Statements.{Within, Passed}
use Rattle.run.specs.Run.{most_steps, run_of}

-- A piece of code is some instructions, each by its bytes; and all these bytes, one after the other
unfoldable pub in_a_row : List (List ℕ) → List ℕ
in_a_row [] = []
in_a_row (code ∷ piece) = code ++ in_a_row piece

-- what stands at an address begins with this code
abbrev pub CodeBegins : List ℕ → List ℕ → ℕ → List ℕ → Type 0
CodeBegins ram rom at code = (rest : List ℕ) × (code_at ram rom at ≡ code ++ rest)

-- every code can stand somewhere: in a RAM that has nothing else, at 0
abbrev pub CanStand : Type 0
CanStand = (code : List ℕ) → CodeBegins code [] 0 code

-- two states differ at most in their counters
abbrev pub ButCounter : State → State → Type 0
ButCounter s t = with_counter s 0 ≡ with_counter t 0

-- A step at this code makes t of s, wherever it stands and whatever the memories are: it is done, RAM stays as it was, and the counter goes
-- past the code. The counters that s and t have themselves do not matter
abbrev pub Makes : List ℕ → State → State → Type 0
Makes code s t =
    (ram rom : List ℕ) (at : ℕ) → Within ram rom → at < 2 ^ 24 → CodeBegins ram rom at code →
    try_of (with_counter s at) ram rom ≡ did (with_counter t (at + length code)) ram

-- the steps of a piece, one after the other, make t of s
unfoldable pub PieceMakes : List (List ℕ) → State → State → Type 0
PieceMakes [] s t = ButCounter s t
PieceMakes (code ∷ piece) s t = (u : State) × Makes code s u × PieceMakes piece u t

-- two pieces may stand for each other: whatever the state is, both make the same of it
abbrev pub LeaveSame : List (List ℕ) → List (List ℕ) → Type 0
LeaveSame p q = (s : State) → Sound s → valid_of s ≡ true → (t : State) × PieceMakes p s t × PieceMakes q s t

-- ---- what holds of all pieces
-- every code of a piece fits into a memory
unfoldable pub FitsMemory : List (List ℕ) → Type 0
FitsMemory [] = Unit {0}
FitsMemory (code ∷ piece) = (length code ≤ 2 ^ 16) × FitsMemory piece

-- a piece makes one state of a state, but for the counter
abbrev pub PieceSettled : Type 0
PieceSettled = (piece : List (List ℕ)) (s t u : State) → FitsMemory piece → PieceMakes piece s t → PieceMakes piece s u → ButCounter t u

-- what one piece makes and then another, both make in a row
abbrev pub PiecesJoin : Type 0
PiecesJoin = (p q : List (List ℕ)) (s t u : State) → PieceMakes p s t → PieceMakes q t u → PieceMakes (p ++ q) s u

-- a patch may be turned round
abbrev pub PatchesTurn : Type 0
PatchesTurn = (p q : List (List ℕ)) → LeaveSame p q → LeaveSame q p

-- a patch behind a patch is a patch of both
abbrev pub PatchesJoin : Type 0
PatchesJoin = (p q p' q' : List (List ℕ)) → FitsMemory p → LeaveSame p q → LeaveSame p' q' → LeaveSame (p ++ p') (q ++ q')

-- and a patch of a patch is a patch
abbrev pub PatchesChain : Type 0
PatchesChain = (p q r : List (List ℕ)) → FitsMemory q → LeaveSame p q → LeaveSame q r → LeaveSame p r

-- a piece that stands at the counter: a run of as many steps does them all, makes that state, and its counter is past the piece
abbrev pub PieceRuns : Type 0
PieceRuns =
    (piece : List (List ℕ)) (s t : State) (ram rom : List ℕ) → PieceMakes piece s t → Passed s ram rom → length piece ≤ most_steps →
    CodeBegins ram rom s.counter (in_a_row piece) →
    run_of (length piece) s ram rom ≡ ends (length piece) (with_counter t (s.counter + length (in_a_row piece))) ram (Ok tt)

-- a piece at an address in two memories, which a run may begin at
pub record Ready (piece : List (List ℕ)) (at : ℕ) (ram rom : List ℕ) : Type 0 where
  pub within : Within ram rom
  pub address : at < 2 ^ 24
  pub steps : length piece ≤ most_steps
  pub stands : CodeBegins ram rom at (in_a_row piece)

-- a patch: the memories hold one piece before it and another after it, each at its place. A run over the one and a run over the other leave
-- the same, but for the counter, which is past the piece
abbrev pub PatchKeeps : Type 0
PatchKeeps =
    (before after : List (List ℕ)) (s : State) (at at' : ℕ) (ram rom ram' rom' : List ℕ) → LeaveSame before after → Sound s → valid_of s ≡ true →
    Ready before at ram rom → Ready after at' ram' rom' →
    (t : State)
    × (run_of (length before) (with_counter s at) ram rom ≡ ends (length before) (with_counter t (at + length (in_a_row before))) ram (Ok tt))
    × (run_of (length after) (with_counter s at') ram' rom' ≡ ends (length after) (with_counter t (at' + length (in_a_row after))) ram' (Ok tt))
