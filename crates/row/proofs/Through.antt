-- Laws of a row that is read: one instruction more, and how it ends.
use Prim.Native.Nat.{ℕ, zero, suc, ◌+◌, ◌-◌, ◌<◌, ◌≤◌}
use mathlib.Core.Path.{◌≡◌, refl, ap, sym, ◌∙◌}
use mathlib.Core.Bool.{false}
use mathlib.Core.List.{List, [], ◌∷◌, ◌++◌, append_assoc, append-nil}
use native.Mathlib.Omega.{arith}
use native.Mathlib.Numerals.{add-one}
use lib.Dec.{eqb}
use lib.ListN.{length, get_or, take, drop, set, replicate, length-drop, length-set, take-append-drop}
use lib.Seq.{take_all, take-suc-set, drop-set-lt, drop-cons, length-take-le}
use borrow.Author.Tests.{eq-eqb, ne_eqb}
use Rattle.code.specs.declared.Instruction.{Instruction}
use Rattle.code.specs.Listed.{decode_of}
use Rattle.code.proofs.Walked.{length_fits}
use Rattle.encode.specs.declared.Refusal.{Refusal}
use Rattle.encode.specs.declared.Refusal.TheVariants.{Short, Unlisted, NoList}
use Rattle.std.specs.Prelude.{Ok, Err}
use Rattle.row.specs.Row.{most, Reading, before, behind_first, row_read, blank, held_as, reading_of}
use Rattle.code.specs.declared.Unread.TheVariants as unread

-- ---- instructions before what the rest is read as
pub before_none : (r : Reading) → before [] r ≡ r
unfolding before
before_none (Ok l) = refl
before_none (Err why) = refl

pub before_join : (l m : List Instruction) (r : Reading) → before l (before m r) ≡ before (l ++ m) r
unfolding before
before_join l m (Ok k) = ap (λ (t : List Instruction). Ok t) (sym (append_assoc l m k))
before_join l m (Err why) = refl

pub before_refused : (l : List Instruction) (why : Refusal) → before l (Err why) ≡ Err why
unfolding before
before_refused l why = refl

-- ---- a row of no bytes, a full list, and one instruction more
pub read_none : (n : ℕ) (s : List ℕ) → length s ≡ 0 → row_read n s ≡ Ok []
unfolding row_read
read_none zero s h = rw (eq-eqb (length s) 0 h) refl
read_none (suc n) s h = rw (eq-eqb (length s) 0 h) refl

some : (s : List ℕ) → 0 < length s → eqb (length s) 0 ≡ false
some s h = ne_eqb (length s) 0 (λ e. omega arith)

pub read_full : (s : List ℕ) → 0 < length s → row_read 0 s ≡ Err NoList
unfolding row_read
read_full s h = rw (some s h) refl

pub read_first : (n : ℕ) (s : List ℕ) → 0 < length s → row_read (suc n) s ≡ behind_first (decode_of s) (λ (k : ℕ). row_read n (drop k s))
unfolding row_read
read_first n s h = rw (some s h) refl

pub read_whole :
    (n : ℕ) (s : List ℕ) (i : Instruction) → 0 < length s → decode_of s ≡ Ok i → row_read (suc n) s ≡ before (i ∷ []) (row_read n (drop i.length s))
unfolding behind_first
read_whole n s i h e = read_first n s h ∙ rw e refl

pub read_short : (n : ℕ) (s : List ℕ) → 0 < length s → decode_of s ≡ Err unread.Short → row_read (suc n) s ≡ Err Short
unfolding behind_first
read_short n s h e = read_first n s h ∙ rw e refl

pub read_unlisted : (n : ℕ) (s : List ℕ) → 0 < length s → decode_of s ≡ Err unread.Unlisted → row_read (suc n) s ≡ Err Unlisted
unfolding behind_first
read_unlisted n s h e = read_first n s h ∙ rw e refl

-- ---- the loop: what it holds, over the code s, the places h, the count k and the rest of the code
pub record Holding (s : List ℕ) (h : List Instruction) (k : ℕ) (rest : List ℕ) : Type 0 where
  pub few : k ≤ most
  pub long : length h ≡ most
  pub blanks : drop k h ≡ replicate (most - k) blank
  pub so_far : row_read most s ≡ before (take k h) (row_read (most - k) rest)

pub holding_none : (s : List ℕ) (h : List Instruction) → h ≡ replicate most blank → Holding s h 0 s
holding_none s h e = record { few = omega arith; long = rw e refl; blanks = e; so_far = sym (before_none (row_read most s)) }

tail_same : (a b : Instruction) (l m : List Instruction) → a ∷ l ≡ b ∷ m → l ≡ m
tail_same a b l m e = ap (drop 1) e

-- the places behind the next one are still blank
blank_more : (h : List Instruction) (k : ℕ) → k < most → length h ≡ most → drop k h ≡ replicate (most - k) blank → drop (k + 1) h ≡ replicate (most - (k + 1)) blank
blank_more h k room long e =
    let z : most - k ≡ suc (most - suc k) = omega arith in
    let f : get_or h k blank ∷ drop (suc k) h ≡ blank ∷ replicate (most - suc k) blank = sym (drop-cons h k blank (omega arith)) ∙ e ∙ ap (λ (n : ℕ). replicate n blank) z in
    rw (add-one k) (tail_same _ _ _ _ f)

module _ {s : List ℕ} {h : List Instruction} {k : ℕ} {rest : List ℕ} (holding : Holding s h k rest) where
  -- what the rest is read as, where a place is left
  rest_with : {r : Reading} → row_read (suc (most - (k + 1))) rest ≡ r → k < most → row_read most s ≡ before (take k h) r
  rest_with {r} e room =
      let z : most - k ≡ suc (most - (k + 1)) = omega arith in
      holding.so_far ∙ ap (before (take k h)) (ap (λ (n : ℕ). row_read n rest) z ∙ e)

  pub holding_more :
      (i : Instruction) → k < most → 0 < length rest → decode_of rest ≡ Ok i →
      Holding s (set h k i) (k + 1) (take (length rest - i.length) (drop i.length rest))
  holding_more i room some_left e =
      let next = take (length rest - i.length) (drop i.length rest) in
      let moved : next ≡ drop i.length rest = take_all (length rest - i.length) (drop i.length rest) (omega (arith, length-drop i.length rest)) in
      let inside : k < length h = omega (arith, holding.long) in
      let front : take (k + 1) (set h k i) ≡ take k h ++ (i ∷ []) = rw (add-one k) (take-suc-set h k i inside) in
      let later = row_read (most - (k + 1)) next in
      let step : row_read (suc (most - (k + 1))) rest ≡ before (i ∷ []) later =
      read_whole (most - (k + 1)) rest i some_left e ∙ ap (λ (t : List ℕ). before (i ∷ []) (row_read (most - (k + 1)) t)) (sym moved) in
      record {
        few = omega arith;
        long = length-set h k i ∙ holding.long;
        blanks = drop-set-lt (k + 1) h k i (omega arith) ∙ blank_more h k room holding.long holding.blanks;
        so_far = rest_with step room ∙ before_join (take k h) (i ∷ []) later ∙ ap (λ (l : List Instruction). before l later) (sym front);
      }

  pub stops_full : most ≤ k → 0 < length rest → Err NoList ≡ reading_of (row_read most s)
  stops_full full some_left =
      let z : most - k ≡ 0 = omega arith in
      ap reading_of (sym (holding.so_far ∙ ap (before (take k h)) (ap (λ (n : ℕ). row_read n rest) z ∙ read_full rest some_left) ∙ before_refused (take k h) NoList))

  pub stops_short : k < most → 0 < length rest → decode_of rest ≡ Err unread.Short → Err Short ≡ reading_of (row_read most s)
  stops_short room some_left e = ap reading_of (sym (rest_with (read_short (most - (k + 1)) rest some_left e) room ∙ before_refused (take k h) Short))

  pub stops_unlisted : k < most → 0 < length rest → decode_of rest ≡ Err unread.Unlisted → Err Unlisted ≡ reading_of (row_read most s)
  stops_unlisted room some_left e = ap reading_of (sym (rest_with (read_unlisted (most - (k + 1)) rest some_left e) room ∙ before_refused (take k h) Unlisted))

  pub read_ends : length rest ≡ 0 → Ok (record { held = h; count = k }) ≡ reading_of (row_read most s)
  unfolding before held_as
  read_ends none =
      let all : row_read most s ≡ Ok (take k h) =
      holding.so_far ∙ ap (before (take k h)) (read_none (most - k) rest none) ∙ ap (λ (l : List Instruction). Ok l) (append-nil (take k h)) in
      let count : length (take k h) ≡ k = length-take-le k h (omega (arith, holding.few, holding.long)) in
      let whole : h ≡ take k h ++ replicate (most - k) blank = sym (take-append-drop k h) ∙ ap (λ (l : List Instruction). take k h ++ l) holding.blanks in
      rw (all, count) (ap (λ (l : List Instruction). Ok (record { held = l; count = k })) whole)

-- ---- an instruction that was read has a byte, and no more than are there
pub some_bytes : (s : List ℕ) (i : Instruction) → decode_of s ≡ Ok i → 1 ≤ i.length
some_bytes s i e = (length_fits s i e).0

pub few_bytes_read : (s : List ℕ) (i : Instruction) → decode_of s ≡ Ok i → i.length ≤ length s
few_bytes_read s i e = (length_fits s i e).1.1
