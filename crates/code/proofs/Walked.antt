-- What the walk over the codes says of a decoded instruction: its length, its bytes and its ranges.
use Prim.Native.Nat.{ℕ, zero, suc, ◌+◌, ◌≤◌, ◌<◌, ◌^◌}
use mathlib.Core.Path.{◌≡◌, refl, ap, ◌∙◌, sym, subst}
use mathlib.Core.List.{List, [], ◌∷◌, ◌++◌}
use native.Mathlib.Omega.{arith}
use native.Mathlib.Numerals.{add-one}
use lib.ListN.{length, get_or, take, drop, length-drop, length-append}
use lib.Seq.{length-take-le, get_or-drop, take-suc, take-add}
use Rattle.little.specs.Bytes.{Bytes, value_of, bytes_from}
use Rattle.little.proofs.Laws.{value_lt, bytes_value, length_bytes}
use Rattle.code.specs.declared.Op.{Op}
use Rattle.code.specs.declared.Instruction.{Instruction}
use Rattle.code.specs.Said.{Said, whole, unlisted, next, number, judge}
use Rattle.code.specs.Rows.{lookup, by_rows}
use Rattle.code.specs.Listed.{first_rows, decode_of}
use Rattle.code.specs.Written.{code_of}
use Rattle.code.specs.Laws.{LengthFits, LengthIs, Ranges, BlockLength, KeepsBytes, NoTwins}
use Rattle.code.proofs.Prefix.{within, grows, after_next, after_number}
use Rattle.code.proofs.Walk.{Fine, Walk}
use Rattle.code.proofs.Codes.{first_rows_lem}
use Rattle.std.proofs.Common.{Ok, Err}
use Rattle.code.specs.Unread.{Decoded}
use Rattle.code.specs.declared.Unread.TheVariants.{Short, Unlisted}

-- ---- a part of bytes is of bytes, and a number in n of them is below 256 to the n
pub bytes_take : (n : ℕ) (l : List ℕ) → Bytes l → Bytes (take n l)
bytes_take zero l y k = omega arith
bytes_take (suc n) [] y k = y k
bytes_take (suc n) (b ∷ l) y zero = y 0
bytes_take (suc n) (b ∷ l) y (suc k) = bytes_take n l (λ j. y (suc j)) k

pub bytes_drop : (i : ℕ) (l : List ℕ) → Bytes l → Bytes (drop i l)
bytes_drop i l y k = rw get_or-drop (y (i + k))

value_below : (s : List ℕ) (i n : ℕ) → i + n ≤ length s → Bytes s → value_of (take n (drop i s)) < 256 ^ n
value_below s i n h y =
    let l : n ≤ length (drop i s) = rw length-drop (omega arith) in
    rw (length-take-le n (drop i s) l) at (value_lt (take n (drop i s)) (bytes_take n (drop i s) (bytes_drop i s y)))

module _ (s : List ℕ) where
  one_more : (i : ℕ) → i < length s → take i s ++ (get_or s i 0 ∷ []) ≡ take (i + 1) s
  one_more i h = rw add-one (sym (take-suc s i 0 h))

  n_more : Bytes s → (i n : ℕ) → i + n ≤ length s → take i s ++ bytes_from n (value_of (take n (drop i s))) ≡ take (i + n) s
  n_more y i n h =
      let l : n ≤ length (drop i s) = rw length-drop (omega arith) in
      let e : length (take n (drop i s)) ≡ n = length-take-le n (drop i s) l in
      let b : bytes_from n (value_of (take n (drop i s))) ≡ take n (drop i s) = rw e at (bytes_value (take n (drop i s)) (bytes_take n (drop i s) (bytes_drop i s y))) in
      rw (b, take-add i n s)

  -- the bytes of an instruction that was read from s: as many as its length, and the first of s where these are bytes
  record Met (x : Instruction) : Type 0 where
    code : List ℕ
    long : length code ≡ x.length
    first : Bytes s → code ≡ take x.length s
    fine : Fine (Bytes s) x.length code x.op x.size x.operand

  abbrev At : Decoded → Type 0
  At (Ok x) = Met x
  At (Err Short) = Unit {0}
  At (Err Unlisted) = Unit {0}

  met : (x : Instruction) (j : Said) (i : ℕ) (p : List ℕ) → length p ≡ i → (Bytes s → p ≡ take i s) → Walk (Bytes s) j i p → judge j s i ≡ Ok x → Met x
  unfolding judge
  met x (whole op z o) i p l f w h = subst At h (record { code = p; long = l; first = f; fine = w })
  met x unlisted i p l f w h = let z : ◌≡◌ {A = ℕ} 0 1 = cc in let y : ⊥ = omega arith in absurd y
  met x (next g) i p l f w h =
      let a = after_next g s i (Ok x) tt h in
      let b = get_or s i 0 in
      let m : length (p ++ (b ∷ [])) ≡ i + 1 = rw length-append (omega arith) in
      met x (g b) (i + 1) (p ++ (b ∷ [])) m (λ y. ap (λ (q : List ℕ). q ++ (b ∷ [])) (f y) ∙ one_more i a.0) (w.1 b) a.1
  met x (number n g) i p l f w h =
      let a = after_number g s i (Ok x) tt n h in
      let v = value_of (take n (drop i s)) in
      let m : length (p ++ bytes_from n v) ≡ i + n = rw (length-append p (bytes_from n v), length_bytes n v) (omega arith) in
      met x (g v) (i + n) (p ++ bytes_from n v) m (λ y. ap (λ (q : List ℕ). q ++ bytes_from n v) (f y) ∙ n_more y i n a.0) (w.1 v (value_below s i n a.0)) a.1

  walked : (x : Instruction) → decode_of s ≡ Ok x → Met x
  unfolding decode_of
  walked x e = met x (by_rows first_rows) 0 [] refl (λ y. refl) (first_rows_lem (Bytes s)) e

-- ---- the statements
pub length_fits : LengthFits
unfolding decode_of
length_fits s x e =
    let a = after_next (lookup first_rows) s 0 (Ok x) tt e in
    (grows (lookup first_rows (get_or s 0 0)) s 1 x a.1, ((walked s x e).fine.0, within (by_rows first_rows) s 0 x (omega arith) e))

pub length_is : LengthIs
length_is s x e = sym (walked s x e).long ∙ ap length (walked s x e).fine.1

pub ranges : Ranges
ranges s x y e = (walked s x e).fine.2 y

pub block_length : BlockLength
unfolding code_of
block_length s x f e h = length_is s x e ∙ ap (λ (op : Op). length (code_of op x.size x.operand)) h

pub keeps_bytes : KeepsBytes
keeps_bytes s x y e = sym ((walked s x e).first y) ∙ (walked s x e).fine.1

pub no_twins : NoTwins
no_twins s t i y w e f = keeps_bytes s i y e ∙ sym (keeps_bytes t i w f)
