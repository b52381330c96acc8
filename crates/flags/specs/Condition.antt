-- The sixteen conditions of a jump.
use Rattle.std.specs.Prelude.{ℕ, ◌+◌, ◌%◌, ◌≡◌, Bool, true, false, not, cond, ◌&&◌, ◌||◌, List, [], ◌∷◌, ltb, get_or}
use Rattle.little.specs.Words.{bool_eq}
use Rattle.flags.specs.{declared.Flags.Flags, Undefined.marks_v}

-- S differs from V
abbrev pub less_than : Flags → Bool
less_than f = not (bool_eq f.s f.v)

-- 0 to 7: never, LT, LE, ULE, V, S, Z, C
unfoldable pub basic : Flags → ℕ → Bool
basic f n = get_or (false ∷ less_than f ∷ (f.z || less_than f) ∷ (f.c || f.z) ∷ f.v ∷ f.s ∷ f.z ∷ f.c ∷ []) n false

-- 8 to 15 are their opposites in the same order; of a larger code the low four bits count
unfoldable pub holds_of : Flags → ℕ → Bool
holds_of f cc = cond (ltb (cc % 16) 8) (basic f (cc % 8)) (not (basic f (cc % 8)))

-- condition c + 8 is the opposite of c, whatever the flags are: of 0 to 7, and of every code. Proved in proofs/Conditions.antt
abbrev pub EightOnIsOpposite : Type 0
EightOnIsOpposite = (f : Flags) (c : ℕ) → holds_of f (c + 8) ≡ not (holds_of f c)

-- which of never, LT, LE, ULE, V, S, Z, C, and so of their opposites, read V; no condition reads H
abbrev pub readers : List Bool
readers = false ∷ true ∷ true ∷ false ∷ true ∷ false ∷ false ∷ false ∷ []

unfoldable pub reads_v : ℕ → Bool
reads_v cc = get_or readers (cc % 8) false

-- a condition reads a flag that nobody defined
unfoldable pub reads_marked : Flags → ℕ → Bool
reads_marked f cc = reads_v cc && marks_v f.marks
