-- An operand of six bytes: read and written as two numbers.
use Prim.Native.Nat.{ℕ, ◌+◌, ◌-◌, ◌*◌, ◌/◌, ◌%◌, ◌^◌, ◌<◌, ◌≤◌}
use mathlib.Core.Path.{◌≡◌, refl, ap, sym, ◌∙◌}
use mathlib.Core.List.{List, ◌++◌}
use native.Mathlib.Omega.{arith}
use lib.ListN.{length, get_or, take, drop, length-drop}
use lib.Seq.{drop-drop, get_or-drop}
use Rattle.little.specs.Bytes.{value_of, bytes_from, replaced}
use Rattle.little.proofs.Laws.{length_bytes, bytes_join, value_join, value_take, written, replaced_join, replaced_length}
use Rattle.memory.specs.inner.Six.{six_from}
use Rattle.memory.proofs.Laws.{part_four}

-- where the second part ends
four_more : (o : ℕ) → o + 6 ≡ o + 2 + 4
four_more o = omega arith

-- the two numbers that were read are that of the six bytes
pub six_value :
    (o : ℕ) (l : List ℕ) (low high : ℕ) → o + 6 ≤ length l → low ≡ value_of (take 4 (take (o + 2 - o) (drop o l)))
    → high ≡ value_of (take 4 (take (o + 6 - (o + 2)) (drop (o + 2) l))) → six_from low high ≡ value_of (take 6 (drop o l))
six_value o l low high fits e f =
    let room : 2 ≤ length (drop o l) = rw length-drop (omega arith) in
    let g : low ≡ value_of (take 2 (drop o l)) = e ∙ ap value_of (part_four o 2 (drop o l) (omega arith)) in
    let h : high ≡ value_of (take 4 (drop (o + 2) l)) = rw four_more at f ∙ ap value_of (part_four (o + 2) 4 (drop (o + 2) l) (omega arith)) in
    rw (g, h, ← drop-drop 2 o l) (sym (value_join 2 4 (drop o l) room))

-- the first of them has two bytes
pub six_fits :
    (o : ℕ) (l : List ℕ) (low : ℕ) → ((i : ℕ) → get_or l i 0 < 256) → low ≡ value_of (take 4 (take (o + 2 - o) (drop o l))) → low < 2 ^ 16
six_fits o l low h e =
    let g : low ≡ value_of (take 2 (drop o l)) = e ∙ ap value_of (part_four o 2 (drop o l) (omega arith)) in
    rw g (value_take 2 (drop o l) (λ i. rw (get_or-drop o l i 0) (h (o + i))))

-- the low two bytes of a number, however long it is
low_two : (v : ℕ) → bytes_from 2 v ≡ bytes_from 2 (v % 2 ^ 16)
unfolding bytes_from
low_two v =
    let a : v % 256 ≡ v % 65536 % 256 = omega arith in
    let d : v / 256 ≡ v % 65536 / 256 + 256 * (v / 65536) = omega arith in
    let b : v / 256 % 256 ≡ v % 65536 / 256 % 256 = rw d (omega arith) in
    rw (← a, ← b) refl

-- the first two bytes written, there is room for the rest
after_two :
    (o low : ℕ) (l ys : List ℕ) → o + 6 ≤ length l → ys ≡ bytes_from (length (take (o + 2 - o) (drop o l))) low
    → length (take o l ++ (ys ++ drop (o + 2 - o) (drop o l))) ≡ length l
after_two o low l ys fits e =
    let two : length (bytes_from 2 low) ≡ 2 = length_bytes 2 low in
    ap length (written o 2 low l ys (omega arith) e) ∙ replaced_length o (bytes_from 2 low) l (omega (arith, two))

pub six_room :
    (o low : ℕ) (l ys : List ℕ) → o + 6 ≤ length l → ys ≡ bytes_from (length (take (o + 2 - o) (drop o l))) low
    → o + 6 ≤ length (take o l ++ (ys ++ drop (o + 2 - o) (drop o l)))
six_room o low l ys fits e = rw (after_two o low l ys fits e) fits

-- What a caller learns that lends the two parts, one after the other, to the writer (`written`, for each).
pub six_written :
    (o low high : ℕ) (l m ys zs : List ℕ) → o + 6 ≤ length l → ys ≡ bytes_from (length (take (o + 2 - o) (drop o l))) low
    → m ≡ take o l ++ (ys ++ drop (o + 2 - o) (drop o l)) → zs ≡ bytes_from (length (take (o + 6 - (o + 2)) (drop (o + 2) m))) high
    → take (o + 2) m ++ (zs ++ drop (o + 6 - (o + 2)) (drop (o + 2) m)) ≡ replaced o (bytes_from 6 (six_from (low % 2 ^ 16) high)) l
six_written o low high l m ys zs fits e q f =
    let a : m ≡ replaced o (bytes_from 2 low) l = q ∙ written o 2 low l ys (omega arith) e in
    let two : length (bytes_from 2 low) ≡ 2 = length_bytes 2 low in
    let four : length (bytes_from 4 high) ≡ 4 = length_bytes 4 high in
    let k : length m ≡ length l = ap length q ∙ after_two o low l ys fits e in
    let b : take (o + 2) m ++ (zs ++ drop (o + 6 - (o + 2)) (drop (o + 2) m)) ≡ replaced (o + 2) (bytes_from 4 high) m =
    rw four_more (written (o + 2) 4 high m zs (omega arith) (rw four_more at f)) in
    let j : replaced (o + 2) (bytes_from 4 high) (replaced o (bytes_from 2 low) l) ≡ replaced o (bytes_from 2 low ++ bytes_from 4 high) l =
    rw two at (replaced_join o (bytes_from 2 low) (bytes_from 4 high) l (omega (arith, two, four))) in
    b ∙ ap (replaced (o + 2) (bytes_from 4 high)) a ∙ j
    ∙ ap (λ (p : List ℕ). replaced o p l) (ap (λ (p : List ℕ). p ++ bytes_from 4 high) (low_two low) ∙ sym (bytes_join 2 4 (low % 2 ^ 16) high (omega arith)))
