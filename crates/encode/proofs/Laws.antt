-- Laws of the pieces that a code is made of.
use Prim.Native.Nat.{ℕ, ◌<◌, ◌%◌}
use mathlib.Core.Path.{◌≡◌, refl}
use mathlib.Core.List.{[], ◌∷◌, append-nil}
use native.Mathlib.Omega.{arith}
use Rattle.little.specs.Bytes.{bytes_from}
use Rattle.encode.specs.declared.spell.{Piece.Piece, Place.Place}
use Rattle.encode.specs.inner.Spelt.{place_spelt, spelt}

pub no_bytes : (v : ℕ) → bytes_from 0 v ≡ []
unfolding bytes_from
no_bytes v = refl

pub one_byte : (v : ℕ) → v < 256 → bytes_from 1 v ≡ v ∷ []
unfolding bytes_from
one_byte v h =
    let e : v % 256 ≡ v = omega arith in
    rw e refl

-- a code whose place has all of it: the other two pieces have no bytes, and in the second law no value either
pub spelt_alone : (p : Place) (a b : Piece) → a.bytes ≡ 0 → b.bytes ≡ 0 → spelt (record { place = p; next = a; number = b }) ≡ place_spelt p
spelt_alone p a b e f = rw (e, f, no_bytes b.value) (append-nil (place_spelt p))

pub spelt_bare : (p : Place) → spelt (record { place = p; next = record { value = 0; bytes = 0 }; number = record { value = 0; bytes = 0 } }) ≡ place_spelt p
spelt_bare p = spelt_alone p (record { value = 0; bytes = 0 }) (record { value = 0; bytes = 0 }) refl refl
