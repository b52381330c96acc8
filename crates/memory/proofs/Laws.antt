-- Laws of the place of an operand, and of loads, stores and fetches at a known place.
use Prim.Native.Nat.{ℕ, ◌+◌, ◌-◌, ◌≤◌, ◌<◌, ◌^◌, ◌%◌}
use mathlib.Core.Path.{◌≡◌, refl, ap, sym, ◌∙◌}
use mathlib.Core.Bool.{Bool, true, false, cond, ◌&&◌}
use mathlib.Core.List.{List, ◌∷◌, ◌++◌}
use native.Mathlib.Omega.{arith}
use lib.Dec.{leb}
use lib.ListN.{length, get_or, take, drop, length-append, length-drop, length-take}
use lib.Seq.{take_all, drop-drop, drop-append_seam}
use borrow.Author.Tests.{le-leb, lt-leb, leb-true, leb-false}
use Rattle.answer.specs.declared.Why.{Why}
use Rattle.little.specs.declared.Size.{Size}
use Rattle.little.specs.declared.Size.TheVariants.{Byte, Word, Long}
use Rattle.little.specs.Width.{bytes_of}
use Rattle.little.specs.Bytes.{value_of, bytes_from, replaced}
use Rattle.little.proofs.Laws.{length_bytes, value_bytes, replaced_length, replaced_part, replaced_below, replaced_above}
use Rattle.memory.specs.Place.{missing_of, place_of}
use Rattle.memory.specs.inner.Ends.{past_end}
use Rattle.memory.specs.Access.{bytes_at, load_of, load_bytes, load_from, store_of, store_bytes, store_to, ram_after, ram_bytes, ram_with, code_at, code_from}
use Rattle.memory.specs.declared.Place.{Place}
use Rattle.memory.specs.declared.Place.TheVariants.{Ram, Rom, Missing}
use Rattle.memory.proofs.Ends.{rom_below, end_none, missing_past}
use Rattle.std.proofs.Common.{Ok, Err}

-- ---- the place, from the tests
module _ (rl ml a n : ℕ) where
  pub place_ram : a + n ≤ rl → place_of rl ml a n ≡ Ram a
  unfolding place_of
  place_ram h = simp (le-leb (a + n) rl h)

  pub place_rom : rl < a + n → 2 ^ 24 ≤ a + ml → a + n ≤ 2 ^ 24 → place_of rl ml a n ≡ Rom (a + ml - 2 ^ 24)
  unfolding place_of
  place_rom h i j = simp (lt-leb (a + n) rl h, le-leb (2 ^ 24) (a + ml) i, le-leb (a + n) (2 ^ 24) j)

  pub place_none : rl < a + n → (2 ^ 24 ≤ a + ml → 2 ^ 24 < a + n) → place_of rl ml a n ≡ Missing (missing_of rl ml a n)
  unfolding place_of
  place_none h i = go (leb (2 ^ 24) (a + ml)) refl
    where
      go : (b : Bool) → leb (2 ^ 24) (a + ml) ≡ b → place_of rl ml a n ≡ Missing (missing_of rl ml a n)
      go true e = simp (lt-leb (a + n) rl h, e, lt-leb (a + n) (2 ^ 24) (i (leb-true _ _ e)))
      go false e = simp (lt-leb (a + n) rl h, e)

  pub place_low : 0 < n → rl ≤ a → a + ml < 2 ^ 24 → place_of rl ml a n ≡ Missing (a % 2 ^ 24)
  place_low p h i =
      let high : 2 ^ 24 ≤ a + ml → 2 ^ 24 < a + n = λ j. absurd (omega arith) in
      place_none (omega arith) high ∙ ap Missing (missing_past rl ml a n (omega arith) high ∙ end_none rl ml a h (rom_below ml a i))

-- ---- what a place says of the tests
pub data At (rl ml a n : ℕ) : Place → Type 0 where
  in_ram : a + n ≤ rl → At rl ml a n (Ram a)
  in_rom : rl < a + n → 2 ^ 24 ≤ a + ml → a + n ≤ 2 ^ 24 → At rl ml a n (Rom (a + ml - 2 ^ 24))
  nowhere : rl < a + n → (2 ^ 24 ≤ a + ml → 2 ^ 24 < a + n) → At rl ml a n (Missing (missing_of rl ml a n))

pub at : (rl ml a n : ℕ) → At rl ml a n (place_of rl ml a n)
unfolding place_of
at rl ml a n = go (leb (a + n) rl) (leb (2 ^ 24) (a + ml)) (leb (a + n) (2 ^ 24)) refl refl refl
  where
    go :
        (x y z : Bool) → leb (a + n) rl ≡ x → leb (2 ^ 24) (a + ml) ≡ y → leb (a + n) (2 ^ 24) ≡ z
        → At rl ml a n (cond x (Ram a) (cond (y && z) (Rom (a + ml - 2 ^ 24)) (Missing (missing_of rl ml a n))))
    go true y z e f g = in_ram (leb-true (a + n) rl e)
    go false true true e f g = in_rom (leb-false (a + n) rl e) (leb-true _ _ f) (leb-true _ _ g)
    go false true false e f g = nowhere (leb-false (a + n) rl e) (λ h. leb-false (a + n) (2 ^ 24) g)
    go false false z e f g = nowhere (leb-false (a + n) rl e) (λ h. absurd (omega (arith, leb-false (2 ^ 24) (a + ml) f)))

pub ram_fits_lem : (rl ml a n o : ℕ) → place_of rl ml a n ≡ Ram o → (o ≡ a) × (o + n ≤ rl)
ram_fits_lem rl ml a n o e = go (at rl ml a n) e
  where
    go : {p : Place} → At rl ml a n p → p ≡ Ram o → (o ≡ a) × (o + n ≤ rl)
    go (in_ram h) f = let g : a ≡ o = cc in (sym g, omega arith)
    go (in_rom h i j) f = let z : ◌≡◌ {A = ℕ} 0 1 = cc in absurd (omega arith)
    go (nowhere h i) f = let z : ◌≡◌ {A = ℕ} 0 1 = cc in absurd (omega arith)

pub rom_fits_lem : (rl ml a n o : ℕ) → place_of rl ml a n ≡ Rom o → (o + 2 ^ 24 ≡ a + ml) × (o + n ≤ ml)
rom_fits_lem rl ml a n o e = go (at rl ml a n) e
  where
    go : {p : Place} → At rl ml a n p → p ≡ Rom o → (o + 2 ^ 24 ≡ a + ml) × (o + n ≤ ml)
    go (in_ram h) f = let z : ◌≡◌ {A = ℕ} 0 1 = cc in absurd (omega arith)
    go (in_rom h i j) f = let g : a + ml - 2 ^ 24 ≡ o = cc in (omega arith, omega arith)
    go (nowhere h i) f = let z : ◌≡◌ {A = ℕ} 0 1 = cc in absurd (omega arith)

pub missing_says :
    (rl ml a n x : ℕ) → place_of rl ml a n ≡ Missing x → (rl < a + n) × (2 ^ 24 ≤ a + ml → 2 ^ 24 < a + n) × (x ≡ past_end rl ml a)
missing_says rl ml a n x e = go (at rl ml a n) e
  where
    go : {p : Place} → At rl ml a n p → p ≡ Missing x → (rl < a + n) × (2 ^ 24 ≤ a + ml → 2 ^ 24 < a + n) × (x ≡ past_end rl ml a)
    go (in_ram h) f = let z : ◌≡◌ {A = ℕ} 0 1 = cc in absurd (omega arith)
    go (in_rom h i j) f = let z : ◌≡◌ {A = ℕ} 0 1 = cc in absurd (omega arith)
    go (nowhere h i) f = let g : missing_of rl ml a n ≡ x = cc in (h, i, sym g ∙ missing_past rl ml a n h i)

-- ---- parts
-- a part to the end is what is left after dropping
pub part_drop : (o : ℕ) (l : List ℕ) → take (length l - o) (drop o l) ≡ drop o l
part_drop o l = take_all (length l - o) (drop o l) (simp length-drop (omega arith))

-- what the reader sees of a part of at most four bytes
pub part_four : (o n : ℕ) (l : List ℕ) → n ≤ 4 → take 4 (take (o + n - o) l) ≡ take n l
part_four o n l h =
    let e : o + n - o ≡ n = omega arith in
    rw e (take_all 4 (take n l) (simp length-take (omega arith)))

pub bytes_le : (z : Size) → bytes_of z ≤ 4
bytes_le Byte = omega arith
bytes_le Word = omega arith
bytes_le Long = omega arith

-- ---- a fetch and a load at a known place
pub code_in : (ram rom : List ℕ) (a : ℕ) {p : Place} → place_of (length ram) (length rom) a 1 ≡ p → code_at ram rom a ≡ code_from p ram rom
unfolding code_at
code_in ram rom a e = ap (λ (p : Place). code_from p ram rom) e

-- and it goes on behind what stands first in it
module _ (ram rom : List ℕ) (a : ℕ) (p : List ℕ) (x : ℕ) (q : List ℕ) (h : length ram ≤ 2 ^ 24) where
  many : (l : List ℕ) (o : ℕ) → drop o l ≡ p ++ x ∷ q → length l - o ≡ length p + (length q + 1)
  many l o f = sym (length-drop o l) ∙ ap length f ∙ length-append p (x ∷ q) ∙ omega arith

  later : (l : List ℕ) (o : ℕ) → drop o l ≡ p ++ x ∷ q → drop (o + length p) l ≡ x ∷ q
  later l o f = sym (drop-drop (length p) o l) ∙ ap (drop (length p)) f ∙ drop-append_seam p (x ∷ q)

  pub code_on : code_at ram rom a ≡ p ++ x ∷ q → (a + length p < 2 ^ 24) × (code_at ram rom (a + length p) ≡ x ∷ q)
  unfolding code_at
  code_on e = go (at (length ram) (length rom) a 1) e
    where
      b : ℕ
      b = a + length p

      go : {w : Place} → At (length ram) (length rom) a 1 w → code_from w ram rom ≡ p ++ x ∷ q → (b < 2 ^ 24) × (code_from (place_of (length ram) (length rom) b 1) ram rom ≡ x ∷ q)
      go (in_ram i) f =
          let m = many ram a f in
          (omega arith, ap (λ (w : Place). code_from w ram rom) (place_ram (length ram) (length rom) b 1 (omega arith)) ∙ later ram a f)
      go (in_rom i j k) f =
          let o = a + length rom - 2 ^ 24 in
          let m = many rom o f in
          let d : b + length rom - 2 ^ 24 ≡ o + length p = omega arith in (
            omega arith,
            ap (λ (w : Place). code_from w ram rom) (place_rom (length ram) (length rom) b 1 (omega arith) (omega arith) (omega arith))
                ∙ ap (λ (n : ℕ). drop n rom) d
                ∙ later rom o f,
          )
      go (nowhere i j) f = let m : 0 ≡ length p + (length q + 1) = ap length f ∙ length-append p (x ∷ q) ∙ omega arith in absurd (omega arith)

module _ (ram rom : List ℕ) (a : ℕ) (z : Size) (n : ℕ) (size : n ≡ bytes_of z) where
  pub load_in : {p : Place} → place_of (length ram) (length rom) a n ≡ p → load_of ram rom a z ≡ load_from p ram rom n
  unfolding load_of
  load_in e = rw (← size) (ap (λ (p : Place). load_from p ram rom n) e)

-- ---- what a store leaves of RAM
module _ (ram rom : List ℕ) (a n v : ℕ) where
  replaces : a + n ≤ length ram → a + length (bytes_from n v) ≤ length ram
  replaces h = rw length_bytes h

  -- its length
  pub bytes_length : length (ram_bytes ram rom a n v) ≡ length ram
  bytes_length = go (at (length ram) (length rom) a n)
    where
      go : {p : Place} → At (length ram) (length rom) a n p → length (ram_with p ram n v) ≡ length ram
      go (in_ram h) = replaced_length a (bytes_from n v) ram (replaces h)
      go (in_rom h i j) = refl
      go (nowhere x y) = refl

  -- every byte below the address, and from the end of the operand on
  pub bytes_below : (i : ℕ) → i < a → get_or (ram_bytes ram rom a n v) i 0 ≡ get_or ram i 0
  bytes_below i k = go (at (length ram) (length rom) a n)
    where
      go : {p : Place} → At (length ram) (length rom) a n p → get_or (ram_with p ram n v) i 0 ≡ get_or ram i 0
      go (in_ram h) = replaced_below a (bytes_from n v) ram (replaces h) i k
      go (in_rom h x y) = refl
      go (nowhere x y) = refl

  pub bytes_above : (i : ℕ) → a + n ≤ i → get_or (ram_bytes ram rom a n v) i 0 ≡ get_or ram i 0
  bytes_above i k = go (at (length ram) (length rom) a n)
    where
      go : {p : Place} → At (length ram) (length rom) a n p → get_or (ram_with p ram n v) i 0 ≡ get_or ram i 0
      go (in_ram h) = replaced_above a (bytes_from n v) ram (replaces h) i (rw length_bytes k)
      go (in_rom h x y) = refl
      go (nowhere x y) = refl

  -- a refused store leaves RAM as it was
  pub refused_bytes : (w : Why) → store_bytes ram rom a n ≡ Err w → ram_bytes ram rom a n v ≡ ram
  refused_bytes w e = go (bytes_at ram rom a n) e
    where
      go : (p : Place) → store_to p a ≡ Err w → ram_with p ram n v ≡ ram
      go (Ram o) f = let k : ◌≡◌ {A = ℕ} 0 1 = cc in absurd (omega arith)
      go (Rom o) f = refl
      go (Missing x) f = refl

-- what a store left in RAM is loaded from there
pub stored_loads :
    (ram rom : List ℕ) (a n v : ℕ) → a + n ≤ length ram → v < 256 ^ n → load_bytes (ram_bytes ram rom a n v) rom a n ≡ Ok v
stored_loads ram rom a n v h l =
    let m = ram_bytes ram rom a n v in
    let b = length_bytes n v in
    let is : m ≡ replaced a (bytes_from n v) ram = ap (λ (p : Place). ram_with p ram n v) (place_ram (length ram) (length rom) a n h) in
    let fits : a + n ≤ length m = rw (bytes_length ram rom a n v) h in
    let room : a + length (bytes_from n v) ≤ length ram = rw b h in
    let stands : take n (drop a m) ≡ bytes_from n v =
    ap (λ (y : List ℕ). take n (drop a y)) is ∙ ap (λ (c : ℕ). take c (drop a (replaced a (bytes_from n v) ram))) (sym b) ∙ replaced_part a (bytes_from n v) ram room in
    ap (λ (p : Place). load_from p m rom n) (place_ram (length m) (length rom) a n fits) ∙ ap Ok (ap value_of stands ∙ value_bytes n v l)

-- the same of a size
module _ (ram rom : List ℕ) (a : ℕ) (z : Size) (v : ℕ) where
  pub after_length : length (ram_after ram rom a z v) ≡ length ram
  unfolding ram_after
  after_length = bytes_length ram rom a (bytes_of z) v

  pub after_below : (i : ℕ) → i < a → get_or (ram_after ram rom a z v) i 0 ≡ get_or ram i 0
  unfolding ram_after
  after_below = bytes_below ram rom a (bytes_of z) v

  pub after_above : (i : ℕ) → a + bytes_of z ≤ i → get_or (ram_after ram rom a z v) i 0 ≡ get_or ram i 0
  unfolding ram_after
  after_above = bytes_above ram rom a (bytes_of z) v

  pub refused_keeps : (w : Why) → store_of ram rom a z ≡ Err w → ram_after ram rom a z v ≡ ram
  unfolding ram_after store_of
  refused_keeps = refused_bytes ram rom a (bytes_of z) v
