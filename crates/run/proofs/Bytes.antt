-- Lists of bytes: their parts, and RAM after a store.
use Prim.Native.Nat.{ℕ, zero, suc, ◌+◌, ◌/◌, ◌^◌, ◌<◌, ◌≤◌}
use mathlib.Core.Path.{◌≡◌, refl, subst}
use mathlib.Core.List.{List, [], ◌∷◌, ◌++◌}
use native.Mathlib.Omega.{arith}
use lib.ListN.{length, take, drop, length-drop}
use lib.Seq.{get_or-drop, length-take-le}
use Rattle.little.specs.declared.Size.{Size}
use Rattle.little.specs.declared.Size.TheVariants.{Byte, Word, Long}
use Rattle.little.specs.Width.{bits_of, bytes_of}
use Rattle.little.specs.Bytes.{Bytes, value_of, bytes_from, replaced}
use Rattle.little.proofs.Laws.{value_lt}
use Rattle.memory.specs.Place.{place_of}
use Rattle.memory.specs.Access.{load_of, load_from, ram_after, ram_with, code_at, code_from, operand_at}
use Rattle.memory.specs.declared.Place.{Place}
use Rattle.memory.specs.declared.Place.TheVariants.{Ram, Rom, Missing}
use Rattle.memory.proofs.Laws.{ram_fits_lem, rom_fits_lem}
use Rattle.std.proofs.Common.{Ok}

pub bytes_none : Bytes []
bytes_none i = omega arith

pub bytes_append : (a b : List ℕ) → Bytes a → Bytes b → Bytes (a ++ b)
bytes_append [] b h k i = k i
bytes_append (x ∷ a) b h k zero = h 0
bytes_append (x ∷ a) b h k (suc i) = bytes_append a b (λ j. h (suc j)) k i

pub bytes_take : (n : ℕ) (l : List ℕ) → Bytes l → Bytes (take n l)
bytes_take zero l h i = omega arith
bytes_take (suc n) [] h i = omega arith
bytes_take (suc n) (b ∷ l) h zero = h 0
bytes_take (suc n) (b ∷ l) h (suc i) = bytes_take n l (λ j. h (suc j)) i

pub bytes_drop : (n : ℕ) (l : List ℕ) → Bytes l → Bytes (drop n l)
bytes_drop n l h i = rw (get_or-drop n l i 0) (h (n + i))

pub bytes_from_lem : (n v : ℕ) → Bytes (bytes_from n v)
unfolding bytes_from
bytes_from_lem zero v i = omega arith
bytes_from_lem (suc n) v zero = omega arith
bytes_from_lem (suc n) v (suc i) = bytes_from_lem n (v / 256) i

pub bytes_after : (ram rom : List ℕ) (a : ℕ) (z : Size) (v : ℕ) → Bytes ram → Bytes (ram_after ram rom a z v)
unfolding ram_after replaced
bytes_after ram rom a z v h = go (operand_at ram rom a z)
  where
    go : (p : Place) → Bytes (ram_with p ram (bytes_of z) v)
    go (Ram o) =
        bytes_append (take o ram) _ (bytes_take o ram h)
        (bytes_append (bytes_from (bytes_of z) v) _ (bytes_from_lem (bytes_of z) v) (bytes_drop (o + length (bytes_from (bytes_of z) v)) ram h))
    go (Rom o) = h
    go (Missing x) = h

pub bytes_code : (ram rom : List ℕ) (a : ℕ) → Bytes ram → Bytes rom → Bytes (code_at ram rom a)
unfolding code_at
bytes_code ram rom a h k = go (place_of (length ram) (length rom) a 1)
  where
    go : (p : Place) → Bytes (code_from p ram rom)
    go (Ram o) = bytes_drop o ram h
    go (Rom o) = bytes_drop o rom k
    go (Missing x) = bytes_none

-- a value that was loaded fits its size
pub size_power : (z : Size) → 256 ^ bytes_of z ≡ 2 ^ bits_of z
size_power Byte = refl
size_power Word = refl
size_power Long = refl

part_fits : (z : Size) (o : ℕ) (l : List ℕ) → Bytes l → o + bytes_of z ≤ length l → value_of (take (bytes_of z) (drop o l)) < 2 ^ bits_of z
part_fits z o l h k =
    let n : length (take (bytes_of z) (drop o l)) ≡ bytes_of z = length-take-le (bytes_of z) (drop o l) (simp length-drop (omega arith)) in
    rw (← size_power z)
    (subst (λ (x : ℕ). value_of (take (bytes_of z) (drop o l)) < 256 ^ x) n
    (value_lt (take (bytes_of z) (drop o l)) (bytes_take (bytes_of z) (drop o l) (bytes_drop o l h))))

pub loaded_fits : (ram rom : List ℕ) (a : ℕ) (z : Size) (v : ℕ) → Bytes ram → Bytes rom → load_of ram rom a z ≡ Ok v → v < 2 ^ bits_of z
unfolding load_of
loaded_fits ram rom a z v h k e = go (operand_at ram rom a z) refl e
  where
    go : (p : Place) → operand_at ram rom a z ≡ p → load_from p ram rom (bytes_of z) ≡ Ok v → v < 2 ^ bits_of z
    go (Ram o) f g =
        let x : value_of (take (bytes_of z) (drop o ram)) ≡ v = cc in
        rw (← x) (part_fits z o ram h (ram_fits_lem (length ram) (length rom) a (bytes_of z) o f).1)
    go (Rom o) f g =
        let x : value_of (take (bytes_of z) (drop o rom)) ≡ v = cc in
        rw (← x) (part_fits z o rom k (rom_fits_lem (length ram) (length rom) a (bytes_of z) o f).1)
    go (Missing y) f g = let x : ◌≡◌ {A = ℕ} 0 1 = cc in absurd (omega arith)
