-- An instruction's bytes in pieces, as the code makes them.
use Rattle.std.specs.Prelude.{ℕ, zero, suc, ◌%◌, List, [], ◌∷◌, ◌++◌, map}
use Rattle.little.specs.Bytes.{bytes_from}
use Rattle.encode.specs.declared.spell.{Place.Place, Code.Code}

-- one byte, or none
abbrev pub one_of : ℕ → ℕ → List ℕ
one_of zero v = []
one_of (suc n) v = v ∷ []

-- what a place's pieces say
abbrev pub place_spelt : Place → List ℕ
place_spelt p = one_of p.first.bytes p.first.value ++ bytes_from p.rest.bytes p.rest.value

-- and a whole code's
abbrev pub spelt : Code → List ℕ
spelt c = place_spelt c.place ++ (one_of c.next.bytes c.next.value ++ bytes_from c.number.bytes c.number.value)

-- the low eight bits of each number
abbrev pub eights : List ℕ → List ℕ
eights = map (λ (v : ℕ). v % 256)
