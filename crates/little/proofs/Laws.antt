-- Laws of numbers as bytes, and of a list with a part replaced.
use Prim.Native.Nat.{ℕ, zero, suc, ◌+◌, ◌*◌, ◌/◌, ◌%◌, ◌<◌, ◌≤◌, ◌-◌, ◌^◌}
use mathlib.Core.Path.{◌≡◌, refl, ap, sym, ◌∙◌}
use mathlib.Core.List.{List, [], ◌∷◌, ◌++◌, append-nil, append_assoc}
use native.Mathlib.Omega.{arith}
use native.Mathlib.Nat.{pow-suc, mul_assoc, mul_comm}
use native.Mathlib.Numerals.{add-one}
use lib.ListN.{length, get_or, take, drop, set, length-drop, length-append, get_or-append}
use lib.Seq.{take-suc-set, append_snoc, take_all, length-take-le, drop-drop, take_at, drop_at, get_or-take, get_or-drop}
use Rattle.little.specs.Bytes.{value_of, bytes_from, replaced}

pub length_bytes : (n v : ℕ) → length (bytes_from n v) ≡ n
unfolding bytes_from
length_bytes zero v = refl
length_bytes (suc n) v = ap suc (length_bytes n (v / 256))

-- the four bytes of a part, each 0 past its end
pub four : (l : List ℕ) → value_of (take 4 l) ≡ get_or l 0 0 + 256 * get_or l 1 0 + 65536 * get_or l 2 0 + 16777216 * get_or l 3 0
unfolding value_of
four [] = refl
four (a ∷ []) = omega arith
four (a ∷ b ∷ []) = omega arith
four (a ∷ b ∷ e ∷ []) = omega arith
four (a ∷ b ∷ e ∷ f ∷ l) = omega arith

-- what is written reads back, and what is read is written again
pub value_bytes : (n v : ℕ) → v < 256 ^ n → value_of (bytes_from n v) ≡ v
unfolding value_of bytes_from
value_bytes zero v h = omega arith
value_bytes (suc n) v h =
    let k : v / 256 < 256 ^ n = omega (arith, rw pow-suc at h) in
    rw (value_bytes n (v / 256) k) (omega arith)

pub bytes_value : (l : List ℕ) → ((i : ℕ) → get_or l i 0 < 256) → bytes_from (length l) (value_of l) ≡ l
unfolding value_of bytes_from
bytes_value [] h = refl
bytes_value (b ∷ l) h =
    let k : b < 256 = h 0 in
    let e : (b + 256 * value_of l) % 256 ≡ b = omega arith in
    let f : (b + 256 * value_of l) / 256 ≡ value_of l = omega arith in
    rw (e, f, bytes_value l (λ i. h (suc i)))

-- a number of n bytes is below 256 to the n
pub value_lt : (l : List ℕ) → ((i : ℕ) → get_or l i 0 < 256) → value_of l < 256 ^ length l
unfolding value_of
value_lt [] h = omega arith
value_lt (b ∷ l) h =
    let k : b < 256 = h 0 in
    let r : value_of l < 256 ^ length l = value_lt l (λ i. h (suc i)) in
    rw pow-suc (omega arith)

-- the same of the first n bytes of a list, however many it has
pub value_take : (n : ℕ) (l : List ℕ) → ((i : ℕ) → get_or l i 0 < 256) → value_of (take n l) < 256 ^ n
unfolding value_of
value_take zero l h = omega arith
value_take (suc n) [] h =
    let r : value_of (take n []) < 256 ^ n = value_take n [] h in
    rw pow-suc (omega arith)
value_take (suc n) (b ∷ l) h =
    let k : b < 256 = h 0 in
    let r : value_of (take n l) < 256 ^ n = value_take n l (λ i. h (suc i)) in
    rw pow-suc (omega arith)

weight_up : (n y : ℕ) → 256 ^ suc n * y ≡ 256 * (256 ^ n * y)
weight_up n y = rw (pow-suc, mul_comm (256 ^ n) 256) (mul_assoc 256 (256 ^ n) y)

-- a number of n bytes with another above it: its bytes are those of both, and it is read from them so
pub bytes_join : (n m x y : ℕ) → x < 256 ^ n → bytes_from (n + m) (x + 256 ^ n * y) ≡ bytes_from n x ++ bytes_from m y
unfolding bytes_from
bytes_join zero m x y h =
    let e : x + 256 ^ 0 * y ≡ y = omega arith in
    let z : 0 + m ≡ m = omega arith in
    rw (e, z) refl
bytes_join (suc n) m x y h =
    let z : suc n + m ≡ suc (n + m) = omega arith in
    let k : x / 256 < 256 ^ n = omega (arith, rw pow-suc at h) in
    let g = weight_up n y in
    let e : (x + 256 ^ suc n * y) % 256 ≡ x % 256 = rw g (omega arith) in
    let f : (x + 256 ^ suc n * y) / 256 ≡ x / 256 + 256 ^ n * y = rw g (omega arith) in
    rw (z, e, f, bytes_join n m (x / 256) y k) refl

pub value_join : (n m : ℕ) (l : List ℕ) → n ≤ length l → value_of (take (n + m) l) ≡ value_of (take n l) + 256 ^ n * value_of (take m (drop n l))
unfolding value_of
value_join zero m l h = let z : 0 + m ≡ m = omega arith in rw z (omega arith)
value_join (suc n) m [] h = absurd (omega arith)
value_join (suc n) m (b ∷ l) h =
    let v = value_of (take m (drop n l)) in
    let z : suc n + m ≡ suc (n + m) = omega arith in
    let g = weight_up n v in
    rw (z, value_join n m l (omega arith), g) (omega arith)

-- one byte more of the writer's loop
pub write_more :
    (l : List ℕ) (i v : ℕ) → i < length l →
    take (i + 1) (set l i (v % 256)) ++ bytes_from (length l - (i + 1)) (v / 256) ≡ take i l ++ bytes_from (length l - i) v
unfolding bytes_from
write_more l i v h =
    let e : length l - i ≡ suc (length l - (i + 1)) = omega arith in
    rw (e, add-one, take-suc-set) (append_snoc (take i l) (v % 256) (bytes_from (length l - suc i) (v / 256)))

-- and none is left
pub write_done : (l : List ℕ) (i v : ℕ) {x : List ℕ} → length l ≤ i → take i l ++ bytes_from (length l - i) v ≡ x → l ≡ x
unfolding bytes_from
write_done l i v h e =
    let z : length l - i ≡ 0 = omega arith in
    sym (simp (z, take_all, append-nil)) ∙ e

-- What a caller learns that lends `&mut l[o..e]` to `write`, where `ys` is what `write` left there (`.write .last .0`, with
-- `.write .ensures`): the whole list, as it is stated at the loan's end, is `l` with n bytes replaced.
pub written :
    (o n v : ℕ) (l ys : List ℕ) → o + n ≤ length l → ys ≡ bytes_from (length (take (o + n - o) (drop o l))) v →
    take o l ++ (ys ++ drop (o + n - o) (drop o l)) ≡ replaced o (bytes_from n v) l
unfolding replaced
written o n v l ys h e =
    let z : o + n - o ≡ n = omega arith in
    let k : length (take n (drop o l)) ≡ n = length-take-le n (drop o l) (simp length-drop (omega arith)) in
    simp (e, z, k, drop-drop, length_bytes)

-- ---- a list with a part replaced: its length, its parts, and its elements
module _ (o : ℕ) (new l : List ℕ) (fits : o + length new ≤ length l) where
  before_length : length (take o l) ≡ o
  before_length = length-take-le o l (omega arith)

  pub replaced_length : length (replaced o new l) ≡ length l
  unfolding replaced
  replaced_length = simp (length-append, before_length, length-drop) (omega arith)

  pub replaced_take : take (o + length new) (replaced o new l) ≡ take o l ++ new
  unfolding replaced
  replaced_take =
      let e : length (take o l ++ new) ≡ o + length new = simp (length-append, before_length) in
      rw (← append_assoc (take o l) new (drop (o + length new) l)) (take_at (take o l ++ new) (drop (o + length new) l) (o + length new) e)

  pub replaced_drop : drop (o + length new) (replaced o new l) ≡ drop (o + length new) l
  unfolding replaced
  replaced_drop =
      let e : length (take o l ++ new) ≡ o + length new = simp (length-append, before_length) in
      rw (← append_assoc (take o l) new (drop (o + length new) l)) (drop_at (take o l ++ new) (drop (o + length new) l) (o + length new) e)

  pub replaced_part : take (length new) (drop o (replaced o new l)) ≡ new
  unfolding replaced
  replaced_part = rw (drop_at (take o l) (new ++ drop (o + length new) l) o before_length) (take_at new (drop (o + length new) l) (length new) refl)

  pub replaced_below : (i : ℕ) → i < o → get_or (replaced o new l) i 0 ≡ get_or l i 0
  unfolding replaced
  replaced_below i h =
      get_or-append (take o l) (new ++ drop (o + length new) l) 0 i (omega (arith, before_length)) ∙ get_or-take o l i 0 h

  pub replaced_above : (i : ℕ) → o + length new ≤ i → get_or (replaced o new l) i 0 ≡ get_or l i 0
  replaced_above i h =
      let e : o + length new + (i - (o + length new)) ≡ i = omega arith in
      ap (λ (j : ℕ). get_or (replaced o new l) j 0) (sym e)
      ∙ sym (get_or-drop (o + length new) (replaced o new l) (i - (o + length new)) 0)
      ∙ ap (λ (k : List ℕ). get_or k (i - (o + length new)) 0) replaced_drop
      ∙ get_or-drop (o + length new) l (i - (o + length new)) 0
      ∙ ap (λ (j : ℕ). get_or l j 0) e

joined :
    (o : ℕ) (p q l r : List ℕ) → take (o + length p) r ≡ take o l ++ p → drop (o + length p) r ≡ drop (o + length p) l
    → replaced (o + length p) q r ≡ replaced o (p ++ q) l
unfolding replaced
joined o p q l r a b =
    let z : o + length p + length q ≡ o + (length p + length q) = omega arith in
    let e : drop (o + length p + length q) r ≡ drop (o + (length p + length q)) l =
    sym (drop-drop (length q) (o + length p) r) ∙ ap (drop (length q)) b ∙ drop-drop (length q) (o + length p) l ∙ ap (λ (k : ℕ). drop k l) z in
    rw (a, e, length-append) (append_assoc (take o l) p (q ++ drop (o + (length p + length q)) l) ∙ ap (λ (k : List ℕ). take o l ++ k) (sym (append_assoc p q (drop (o + (length p + length q)) l))))

-- a part replaced, and then the one behind it, is both at once
pub replaced_join :
    (o : ℕ) (p q l : List ℕ) → o + length p + length q ≤ length l → replaced (o + length p) q (replaced o p l) ≡ replaced o (p ++ q) l
replaced_join o p q l h = go (replaced o p l) refl
  where
    fits : o + length p ≤ length l
    fits = omega arith

    go : (r : List ℕ) → r ≡ replaced o p l → replaced (o + length p) q r ≡ replaced o (p ++ q) l
    go r e =
        let a : take (o + length p) r ≡ take o l ++ p = rw e (replaced_take o p l fits) in
        let b : drop (o + length p) r ≡ drop (o + length p) l = rw e (replaced_drop o p l fits) in
        joined o p q l r a b
