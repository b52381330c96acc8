-- Laws of judging: one byte more, a number, and rows that say the same.
use Prim.Native.Nat.{ℕ, suc, ◌+◌, ◌*◌, ◌≤◌, ◌<◌}
use mathlib.Core.Path.{◌≡◌, ◌∙◌}
use mathlib.Core.List.{List, [], ◌∷◌}
use native.Mathlib.Omega.{arith}
use native.Mathlib.Numerals.{add-one}
use lib.ListN.{length, get_or, take, drop}
use lib.Seq.{drop-cons}
use lib.Dec.{leb-zero}
use borrow.Author.Tests.{lt-ltb, le-ltb, le-leb, lt-leb}
use Rattle.little.specs.Bytes.{value_of}
use Rattle.little.specs.Width.{bytes_of}
use Rattle.little.specs.declared.Size.{Size}
use Rattle.little.specs.declared.Size.TheVariants.{Byte, Word, Long}
use Rattle.code.specs.declared.Op.{Op}
use Rattle.code.specs.declared.Operand.{Operand}
use Rattle.code.specs.Said.{Said, whole, next, number, judge, number_at, whole_of}
use Rattle.code.specs.Rows.{run, ◌⇒◌, lookup, by_rows}
use Rattle.std.proofs.Common.{Some, None, Option, Err}
use Rattle.code.specs.Unread.{Decoded}
use Rattle.code.specs.declared.Unread.TheVariants.{Short, Unlisted}

module _ (f : ℕ → Said) (s : List ℕ) (i : ℕ) where
  pub next_there : (d : Decoded) → i < length s → d ≡ judge (f (get_or s i 0)) s (i + 1) → d ≡ judge (next f) s i
  unfolding judge
  next_there d h e = simp (lt-ltb _ _ h) e

  pub next_short : length s ≤ i → (Err Short) ≡ judge (next f) s i
  unfolding judge
  next_short h = simp (le-ltb _ _ h)

-- a byte that is listed up to a highest one
module _ (hi : ℕ) (f : ℕ → Said) (s : List ℕ) (i : ℕ) (h : i < length s) where
  pub run_there : (d : Decoded) → get_or s i 0 ≤ hi → d ≡ judge (f (get_or s i 0)) s (i + 1) → d ≡ judge (by_rows ((run 0 hi ⇒ f) ∷ [])) s i
  unfolding judge lookup
  run_there d k e = simp (lt-ltb _ _ h, leb-zero, le-leb _ _ k) e

  pub run_unlisted : hi < get_or s i 0 → (Err Unlisted) ≡ judge (by_rows ((run 0 hi ⇒ f) ∷ [])) s i
  unfolding judge lookup
  run_unlisted k = simp (lt-ltb _ _ h, leb-zero, lt-leb _ _ k)

-- ---- numbers
module _ (s : List ℕ) (i n : ℕ) where
  pub number_there : (v : ℕ) → i + n ≤ length s → v ≡ value_of (take n (drop i s)) → Some v ≡ number_at s i n
  unfolding number_at
  number_there v h e = simp (le-leb _ _ h, e)

  pub number_missing : length s < i + n → None ≡ number_at s i n
  unfolding number_at
  number_missing h = simp (lt-leb _ _ h)

  -- the first byte of a number, and the number in the rest
  pub value_more : i < length s → value_of (take (suc n) (drop i s)) ≡ get_or s i 0 + 256 * value_of (take n (drop (i + 1) s))
  unfolding value_of
  value_more h = rw (drop-cons s i 0 h, add-one)

pub value_1 : (s : List ℕ) (i : ℕ) → i + 1 ≤ length s → value_of (take 1 (drop i s)) ≡ get_or s i 0
unfolding value_of
value_1 s i h = value_more s i 0 (omega arith) ∙ omega arith

pub value_2 : (s : List ℕ) (i : ℕ) → i + 2 ≤ length s → value_of (take 2 (drop i s)) ≡ get_or s i 0 + 256 * get_or s (i + 1) 0
value_2 s i h = omega (arith, value_more s i 1 (omega arith), value_1 s (i + 1) (omega arith))

pub value_3 : (s : List ℕ) (i : ℕ) → i + 3 ≤ length s → value_of (take 3 (drop i s)) ≡ get_or s i 0 + 256 * get_or s (i + 1) 0 + 65536 * get_or s (i + 2) 0
value_3 s i h =
    let e : i + 1 + 1 ≡ i + 2 = omega arith in
    omega (arith, value_more s i 2 (omega arith), rw e at (value_2 s (i + 1) (omega arith)))

pub value_4 :
    (s : List ℕ) (i : ℕ) → i + 4 ≤ length s →
    value_of (take 4 (drop i s)) ≡ get_or s i 0 + 256 * get_or s (i + 1) 0 + 65536 * (get_or s (i + 2) 0 + 256 * get_or s (i + 3) 0)
value_4 s i h =
    let e : i + 1 + 1 ≡ i + 2 = omega arith in
    let f : i + 1 + 2 ≡ i + 3 = omega arith in
    omega (arith, value_more s i 3 (omega arith), rw (e, f) at (value_3 s (i + 1) (omega arith)))

pub bytes_bounds : (z : Size) (n : ℕ) → n ≡ bytes_of z → n ≤ 4
bytes_bounds Byte n e = omega arith
bytes_bounds Word n e = omega arith
bytes_bounds Long n e = omega arith

-- an instruction with a number in it that was looked for and found
pub number_whole :
    (op : ℕ → Op) (z : Size) (o : ℕ → Operand) (s : List ℕ) (i n v : ℕ) (f : Option ℕ) (d : Decoded) →
    f ≡ number_at s i n → f ≡ Some v → d ≡ whole_of (op v) z (o v) (i + n) → d ≡ judge (number n (λ w. whole (op w) z (o w))) s i
unfolding judge
number_whole op z o s i n v f d e g h = rw (← e, g) h

-- what follows a number that was looked for
module _ (k : ℕ → Said) (s : List ℕ) (i n : ℕ) where
  pub number_then : (v : ℕ) (f : Option ℕ) (d : Decoded) → f ≡ number_at s i n → f ≡ Some v → d ≡ judge (k v) s (i + n) → d ≡ judge (number n k) s i
  unfolding judge
  number_then v f d e g h = rw (← e, g) h

  pub number_short : (f : Option ℕ) → f ≡ number_at s i n → f ≡ None → (Err Short) ≡ judge (number n k) s i
  unfolding judge
  number_short f e g = rw (← e, g)
