-- Numbers of four bytes, one after the other: written and read.
use Prim.Native.Nat.{ℕ, zero, suc, ◌+◌, ◌-◌, ◌*◌, ◌<◌, ◌≤◌, ◌^◌}
use mathlib.Core.Path.{◌≡◌, refl, ap, sym, ◌∙◌}
use mathlib.Core.List.{List, [], ◌∷◌, ◌++◌, append_assoc, append-nil}
use native.Mathlib.Omega.{arith}
use native.Mathlib.Numerals.{add-one}
use lib.ListN.{length, get_or, take, drop, set, length-append, length-take, length-drop}
use lib.Seq.{take-suc, take-suc-set, take_all, drop-drop, take_at, drop_at, take-add, length-take-le, get_or-drop}
use Rattle.little.specs.Bytes.{Bytes, value_of, bytes_from}
use Rattle.little.proofs.Laws.{length_bytes, written, replaced_take, value_bytes, bytes_value, value_take}
use Rattle.saved.specs.Record.{longs_bytes, longs_at}

-- ---- writing
longs_append : (xs ys : List ℕ) → longs_bytes (xs ++ ys) ≡ longs_bytes xs ++ longs_bytes ys
unfolding longs_bytes
longs_append [] ys = refl
longs_append (x ∷ xs) ys = rw (longs_append xs ys) (sym (append_assoc (bytes_from 4 x) (longs_bytes xs) (longs_bytes ys)))

pub longs_step : (xs : List ℕ) (i : ℕ) → i < length xs → longs_bytes (take (i + 1) xs) ≡ longs_bytes (take i xs) ++ bytes_from 4 (get_or xs i 0)
unfolding longs_bytes
longs_step xs i h =
    rw (add-one, take-suc xs i 0 h, longs_append)
    (ap (λ (l : List ℕ). longs_bytes (take i xs) ++ l) (append-nil (bytes_from 4 (get_or xs i 0))))

pub longs_length : (xs : List ℕ) → length (longs_bytes xs) ≡ 4 * length xs
unfolding longs_bytes
longs_length [] = refl
longs_length (x ∷ xs) = simp (length-append, length_bytes, longs_length xs) (omega arith)

-- a list filled from the front by `write` on parts: the filled front grows
pub lent_take :
    (o n v : ℕ) (l ys : List ℕ) → o + n ≤ length l → ys ≡ bytes_from (length (take (o + n - o) (drop o l))) v →
    take (o + n) (take o l ++ (ys ++ drop (o + n - o) (drop o l))) ≡ take o l ++ bytes_from n v
lent_take o n v l ys fits e =
    let k : o + n ≡ o + length (bytes_from n v) = rw length_bytes in
    rw (written o n v l ys fits e, k) (replaced_take o (bytes_from n v) l (rw length_bytes fits))

-- ---- reading
-- a part of at most four bytes is read whole
pub read_part : (n : ℕ) (l : List ℕ) → n ≤ 4 → value_of (take 4 (take n l)) ≡ value_of (take n l)
read_part n l h = ap value_of (take_all 4 (take n l) (simp length-take (omega arith)))

-- two bytes, each 0 past the end
pub two : (l : List ℕ) → value_of (take 2 l) ≡ get_or l 0 0 + 256 * get_or l 1 0
unfolding value_of
two [] = refl
two (a ∷ []) = omega arith
two (a ∷ b ∷ l) = omega arith

-- one number more, at the end
longs_snoc : (n : ℕ) (l : List ℕ) → longs_at (suc n) l ≡ longs_at n l ++ (value_of (take 4 (drop (4 * n) l)) ∷ [])
unfolding longs_at
longs_snoc zero l = refl
longs_snoc (suc n) l =
    let e : 4 + 4 * n ≡ 4 * suc n = omega arith in
    ap (λ (t : List ℕ). value_of (take 4 l) ∷ t)
    (longs_snoc n (drop 4 l)
    ∙ ap (λ (t : List ℕ). longs_at n (drop 4 l) ++ (value_of (take 4 t) ∷ [])) (drop-drop (4 * n) 4 l ∙ ap (λ (k : ℕ). drop k l) e))

-- a turn of the loop that reads the registers
pub longs_more :
    (r l : List ℕ) (i v : ℕ) → i < length r → v ≡ value_of (take 4 (drop (4 * i) l)) →
    take i r ≡ longs_at i l → take (i + 1) (set r i v) ≡ longs_at (i + 1) l
longs_more r l i v h e q = rw (add-one, take-suc-set, longs_snoc) (cc)

-- ---- written, then read; read, then written
pub longs_back : (xs rest : List ℕ) → ((i : ℕ) → get_or xs i 0 < 2 ^ 32) → longs_at (length xs) (longs_bytes xs ++ rest) ≡ xs
unfolding longs_at longs_bytes
longs_back [] rest h = refl
longs_back (x ∷ xs) rest h =
    let n = length_bytes 4 x in
    rw (
      append_assoc (bytes_from 4 x) (longs_bytes xs) rest,
      take_at (bytes_from 4 x) (longs_bytes xs ++ rest) 4 n,
      drop_at (bytes_from 4 x) (longs_bytes xs ++ rest) 4 n,
      value_bytes 4 x (h 0),
      longs_back xs rest (λ i. h (suc i)),
    )

pub bytes_take : (n : ℕ) (l : List ℕ) → Bytes l → Bytes (take n l)
bytes_take zero l h i = omega arith
bytes_take (suc n) [] h i = omega arith
bytes_take (suc n) (b ∷ l) h zero = h 0
bytes_take (suc n) (b ∷ l) h (suc i) = bytes_take n l (λ j. h (suc j)) i

pub bytes_drop : (n : ℕ) (l : List ℕ) → Bytes l → Bytes (drop n l)
bytes_drop n l h i = rw (get_or-drop n l i 0) (h (n + i))

pub part_bytes : (n : ℕ) (l : List ℕ) → n ≤ length l → Bytes l → bytes_from n (value_of (take n l)) ≡ take n l
part_bytes n l k h =
    ap (λ (m : ℕ). bytes_from m (value_of (take n l))) (sym (length-take-le n l k)) ∙ bytes_value (take n l) (bytes_take n l h)

pub bytes_longs : (n : ℕ) (l : List ℕ) → 4 * n ≤ length l → Bytes l → longs_bytes (longs_at n l) ≡ take (4 * n) l
unfolding longs_bytes longs_at
bytes_longs zero l k h = refl
bytes_longs (suc n) l k h =
    let e : 4 * suc n ≡ 4 + 4 * n = omega arith in
    rw (
      e,
      take-add 4 (4 * n) l,
      part_bytes 4 l (omega arith) h,
      bytes_longs n (drop 4 l) (simp length-drop (omega arith)) (bytes_drop 4 l h),
    )

-- what is read fits
pub longs_fit : (n : ℕ) (l : List ℕ) → Bytes l → (i : ℕ) → get_or (longs_at n l) i 0 < 2 ^ 32
unfolding longs_at
longs_fit zero l h i = omega arith
longs_fit (suc n) l h zero = value_take 4 l h
longs_fit (suc n) l h (suc i) = longs_fit n (drop 4 l) (bytes_drop 4 l h) i
