-- What a room is filled with.
use Rattle.std.specs.Prelude.{ℕ, List, ◌++◌, take, replicate}

-- n bytes: those of a record, and zeros past its end
abbrev pub filled : ℕ → List ℕ → List ℕ
filled n l = take n (l ++ replicate n 0)
