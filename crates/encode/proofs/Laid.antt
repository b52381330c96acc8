-- Pieces laid one behind the other at the front of a room, and what the room holds then.
use Prim.Native.Nat.{ℕ, zero, suc, ◌+◌, ◌%◌, ◌/◌, ◌<◌, ◌≤◌}
use mathlib.Core.Path.{◌≡◌, refl, ap, ap₂, sym, ◌∙◌}
use mathlib.Core.List.{List, [], ◌∷◌, ◌++◌, append_assoc}
use native.Mathlib.Omega.{arith}
use lib.ListN.{length, length-append}
use Rattle.little.specs.Bytes.{Bytes, bytes_from, replaced}
use Rattle.little.proofs.Laws.{length_bytes, replaced_length, replaced_join}
use Rattle.encode.specs.declared.spell.{Place.Place, Code.Code}
use Rattle.encode.specs.inner.Spelt.{one_of, place_spelt, spelt, eights}

-- ---- how many bytes
pub placed_length : (p : Place) (a : ℕ) → a ≡ length (one_of p.first.bytes p.first.value) → a + p.rest.bytes ≡ length (place_spelt p)
placed_length p a e =
    let f : length (place_spelt p) ≡ length (one_of p.first.bytes p.first.value) + p.rest.bytes = length-append (one_of p.first.bytes p.first.value) (bytes_from p.rest.bytes p.rest.value) ∙ ap (λ (k : ℕ). length (one_of p.first.bytes p.first.value) + k) (length_bytes p.rest.bytes p.rest.value) in
    omega arith

pub spelt_length :
    (c : Code) (a b : ℕ) → a ≡ length (place_spelt c.place) → b ≡ length (one_of c.next.bytes c.next.value) →
    a + (b + c.number.bytes) ≡ length (spelt c)
spelt_length c a b e f =
    let n = one_of c.next.bytes c.next.value in
    let m = bytes_from c.number.bytes c.number.value in
    let g : length (spelt c) ≡ length (place_spelt c.place) + length (n ++ m) = length-append (place_spelt c.place) (n ++ m) in
    let h : length (n ++ m) ≡ length n + length m = length-append n m in
    let k : length m ≡ c.number.bytes = length_bytes c.number.bytes c.number.value in
    omega arith

-- ---- the low eight bits of each number
eights_join : (p q : List ℕ) → eights (p ++ q) ≡ eights p ++ eights q
eights_join [] q = refl
eights_join (x ∷ p) q = ap (λ (l : List ℕ). x % 256 ∷ l) (eights_join p q)

eights_length : (l : List ℕ) → length (eights l) ≡ length l
eights_length [] = refl
eights_length (x ∷ l) = ap suc (eights_length l)

eights_bytes : (n v : ℕ) → eights (bytes_from n v) ≡ bytes_from n v
unfolding bytes_from
eights_bytes zero v = refl
eights_bytes (suc n) v =
    let e : v % 256 % 256 ≡ v % 256 = omega arith in
    ap₂ (λ (x : ℕ) (l : List ℕ). x ∷ l) e (eights_bytes n (v / 256))

eights_one : (n v : ℕ) → eights (one_of n v) ≡ bytes_from (length (one_of n v)) v
unfolding bytes_from
eights_one zero v = refl
eights_one (suc n) v = refl

pub eights_same : (l : List ℕ) → Bytes l → eights l ≡ l
eights_same [] h = refl
eights_same (x ∷ l) h =
    let b : x < 256 = h 0 in
    let e : x % 256 ≡ x = omega arith in
    ap₂ (λ (y : ℕ) (k : List ℕ). y ∷ k) e (eights_same l (λ i. h (suc i)))

-- ---- a piece behind what is there
pub laid_length : (p l r : List ℕ) → length p ≤ length l → r ≡ replaced 0 p l → length r ≡ length l
laid_length p l r h e = ap length e ∙ replaced_length 0 p l (omega arith)

pub laid_more :
    (p : List ℕ) (a m w : ℕ) (l r s : List ℕ) → a ≡ length p → a + m ≤ length l →
    r ≡ replaced 0 p l → s ≡ replaced a (bytes_from m w) r → s ≡ replaced 0 (p ++ bytes_from m w) l
laid_more p a m w l r s z h e f =
    let k = length_bytes m w in
    let fits : 0 + length p + length (bytes_from m w) ≤ length l = omega arith in
    let at : a ≡ 0 + length p = omega arith in
    f ∙ ap₂ (λ (o : ℕ) (t : List ℕ). replaced o (bytes_from m w) t) at e ∙ replaced_join 0 p (bytes_from m w) l fits

-- ---- a place, and a whole code
pub laid_place :
    (p : Place) (a : ℕ) (l r s : List ℕ) → a ≡ length (one_of p.first.bytes p.first.value) → a + p.rest.bytes ≤ length l →
    r ≡ replaced 0 (bytes_from a p.first.value) l → s ≡ replaced a (bytes_from p.rest.bytes p.rest.value) r →
    s ≡ replaced 0 (eights (place_spelt p)) l
laid_place p a l r s z h e f =
    let one = one_of p.first.bytes p.first.value in
    let rest = bytes_from p.rest.bytes p.rest.value in
    let k : bytes_from a p.first.value ≡ eights one = ap (λ (n : ℕ). bytes_from n p.first.value) z ∙ sym (eights_one p.first.bytes p.first.value) in
    let g : eights one ++ rest ≡ eights (place_spelt p) = ap (λ (t : List ℕ). eights one ++ t) (sym (eights_bytes p.rest.bytes p.rest.value)) ∙ sym (eights_join one rest) in
    laid_more (eights one) a _ _ l r s (z ∙ sym (eights_length one)) h (e ∙ ap (λ (t : List ℕ). replaced 0 t l) k) f
    ∙ ap (λ (t : List ℕ). replaced 0 t l) g

pub laid_code :
    (c : Code) (a b : ℕ) (l q r s : List ℕ) → a ≡ length (place_spelt c.place) → b ≡ length (one_of c.next.bytes c.next.value) →
    a + b + c.number.bytes ≤ length l → q ≡ replaced 0 (eights (place_spelt c.place)) l → r ≡ replaced a (bytes_from b c.next.value) q →
    s ≡ replaced (a + b) (bytes_from c.number.bytes c.number.value) r → s ≡ replaced 0 (eights (spelt c)) l
laid_code c a b l q r s za zb h eq er es =
    let p = eights (place_spelt c.place) in
    let one = one_of c.next.bytes c.next.value in
    let next = bytes_from b c.next.value in
    let num = bytes_from c.number.bytes c.number.value in
    let first : r ≡ replaced 0 (p ++ next) l = laid_more p a b c.next.value l q r (za ∙ sym (eights_length (place_spelt c.place))) (omega arith) eq er in
    let lp : length p ≡ a = eights_length (place_spelt c.place) ∙ sym za in
    let ln : length (p ++ next) ≡ a + b = length-append p next ∙ ap₂ (λ (x y : ℕ). x + y) lp (length_bytes b c.next.value) in
    let k : next ≡ eights one = ap (λ (n : ℕ). bytes_from n c.next.value) zb ∙ sym (eights_one c.next.bytes c.next.value) in
    let g : (p ++ next) ++ num ≡ eights (spelt c) =
    append_assoc p next num
    ∙ ap (λ (t : List ℕ). p ++ t) (ap₂ (λ (x y : List ℕ). x ++ y) k (sym (eights_bytes c.number.bytes c.number.value)) ∙ sym (eights_join one num))
    ∙ sym (eights_join (place_spelt c.place) (one ++ num)) in
    laid_more (p ++ next) (a + b) _ _ l r s (sym ln) h first es ∙ ap (λ (t : List ℕ). replaced 0 t l) g

-- ---- there is room for each piece
pub place_fits :
    (p : Place) (a : ℕ) (l r : List ℕ) → a ≡ length (one_of p.first.bytes p.first.value) → length (place_spelt p) ≤ length l →
    r ≡ replaced 0 (bytes_from a p.first.value) l → a + p.rest.bytes ≤ length r
place_fits p a l r z h e =
    let k = placed_length p a z in
    let m = length_bytes a p.first.value in
    let n = laid_length (bytes_from a p.first.value) l r (omega arith) e in
    omega arith

pub next_fits :
    (c : Code) (a b : ℕ) (l q : List ℕ) → a ≡ length (place_spelt c.place) → b ≡ length (one_of c.next.bytes c.next.value) →
    length (spelt c) ≤ length l → q ≡ replaced 0 (eights (place_spelt c.place)) l → a + (b + c.number.bytes) ≤ length q
next_fits c a b l q za zb h e =
    let k = spelt_length c a b za zb in
    let m = eights_length (place_spelt c.place) in
    let n = laid_length (eights (place_spelt c.place)) l q (omega arith) e in
    omega arith

pub number_fits :
    (c : Code) (a b : ℕ) (l q r : List ℕ) → a ≡ length (place_spelt c.place) → b ≡ length (one_of c.next.bytes c.next.value) →
    length (spelt c) ≤ length l → q ≡ replaced 0 (eights (place_spelt c.place)) l → r ≡ replaced a (bytes_from b c.next.value) q →
    a + b + c.number.bytes ≤ length r
number_fits c a b l q r za zb h e f =
    let k = next_fits c a b l q za zb h e in
    let m = length_bytes b c.next.value in
    let n : length r ≡ length q = ap length f ∙ replaced_length a (bytes_from b c.next.value) q (omega arith) in
    omega arith
