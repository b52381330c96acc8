-- Judging reads no further than the bytes that it has judged.
use Prim.Native.Nat.{ℕ, suc, ◌+◌, ◌≤◌, ◌<◌}
use mathlib.Core.Path.{◌≡◌, refl, sym, ap, subst, ◌∙◌}
use mathlib.Core.Bool.{Bool, true, false, cond}
use mathlib.Core.List.{List, [], ◌∷◌, ◌++◌}
use native.Mathlib.Omega.{arith}
use lib.ListN.{length, get_or, take, drop, length-append, length-drop, get_or-append, take-append-drop}
use lib.Seq.{take-append-le, drop-append-le, length-take-le}
use lib.Dec.{ltb, leb}
use borrow.Author.Tests.{ltb-true, leb-true}
use Rattle.little.specs.Bytes.{value_of}
use Rattle.code.specs.declared.Instruction.{Instruction}
use Rattle.code.specs.Said.{Said, whole, unlisted, next, number, judge, number_at, with_found}
use Rattle.code.specs.Listed.{decode_of}
use Rattle.code.specs.Laws.{WholeStays, OwnBytes, SameStart, UnlistedStays, TwoBytes}
use Rattle.code.proofs.Judge.{next_there, number_there, number_then}
use Rattle.std.proofs.Common.{Some, None, Ok, Err}
use Rattle.code.specs.Unread.{Decoded}
use Rattle.code.specs.declared.Unread.TheVariants.{Short, Unlisted}

-- not short
abbrev pub Settled : Decoded → Type 0
Settled (Ok x) = Unit {0}
Settled (Err Short) = ⊥
Settled (Err Unlisted) = Unit {0}

-- ---- what was judged was there
module _ (f : ℕ → Said) (s : List ℕ) (i : ℕ) (d : Decoded) (w : Settled d) where
  pub after_next : judge (next f) s i ≡ d → (i < length s) × (judge (f (get_or s i 0)) s (i + 1) ≡ d)
  unfolding judge
  after_next = go (ltb i (length s)) refl
    where
      go : (t : Bool) → ltb i (length s) ≡ t → cond t (judge (f (get_or s i 0)) s (i + 1)) (Err Short) ≡ d → (i < length s) × (judge (f (get_or s i 0)) s (i + 1) ≡ d)
      go true e h = (ltb-true _ _ e, h)
      go false e h = absurd (subst Settled (sym h) w)

  pub after_number : (n : ℕ) → judge (number n f) s i ≡ d → (i + n ≤ length s) × (judge (f (value_of (take n (drop i s)))) s (i + n) ≡ d)
  unfolding judge number_at
  after_number n = go (leb (i + n) (length s)) refl
    where
      go :
          (t : Bool) → leb (i + n) (length s) ≡ t →
          with_found (cond t (Some (value_of (take n (drop i s)))) None) (λ v. judge (f v) s (i + n)) ≡ d →
          (i + n ≤ length s) × (judge (f (value_of (take n (drop i s)))) s (i + n) ≡ d)
      go true e h = (leb-true _ _ e, h)
      go false e h = absurd (subst Settled (sym h) w)

-- the same two steps in a code that begins with p
module _ (p q : List ℕ) (i : ℕ) where
  pub byte_in_lem : i < length p → get_or (p ++ q) i 0 ≡ get_or p i 0
  byte_in_lem h = get_or-append p q 0 i h

  pub value_in_lem : (n : ℕ) → i + n ≤ length p → value_of (take n (drop i (p ++ q))) ≡ value_of (take n (drop i p))
  value_in_lem n h =
      let k : i ≤ length p = omega arith in
      let l : n ≤ length (drop i p) = rw length-drop (omega arith) in
      rw (drop-append-le i p q k, take-append-le n (drop i p) q l)

  pub longer : (n : ℕ) → n ≤ length p → n ≤ length (p ++ q)
  longer n h = rw length-append (omega arith)

pub step_next : (f : ℕ → Said) (s : List ℕ) (i b : ℕ) → i < length s → get_or s i 0 ≡ b → judge (next f) s i ≡ judge (f b) s (i + 1)
step_next f s i b h e = sym (next_there f s i _ h (ap (λ (c : ℕ). judge (f c) s (i + 1)) (sym e)))

pub step_number :
    (f : ℕ → Said) (s : List ℕ) (i n v : ℕ) → i + n ≤ length s → value_of (take n (drop i s)) ≡ v →
    judge (number n f) s i ≡ judge (f v) s (i + n)
step_number f s i n v h e = sym (number_then f s i n v (number_at s i n) _ refl (sym (number_there s i n v h (sym e))) refl)

-- more bytes change nothing
pub stays : (j : Said) (p q : List ℕ) (i : ℕ) (d : Decoded) → Settled d → judge j p i ≡ d → judge j (p ++ q) i ≡ d
unfolding judge
stays (whole op z o) p q i d w e = e
stays unlisted p q i d w e = e
stays (next f) p q i d w e =
    let a = after_next f p i d w e in
    step_next f (p ++ q) i (get_or p i 0) (longer p q i (suc i) a.0) (byte_in_lem p q i a.0)
    ∙ stays (f (get_or p i 0)) p q (i + 1) d w a.1
stays (number n f) p q i d w e =
    let a = after_number f p i d w n e in
    step_number f (p ++ q) i n (value_of (take n (drop i p))) (longer p q i (i + n) a.0) (value_in_lem p q i n a.0)
    ∙ stays (f (value_of (take n (drop i p)))) p q (i + n) d w a.1

-- ---- lengths
abbrev length_of : Decoded → ℕ
length_of (Ok x) = x.length
length_of (Err Short) = 0
length_of (Err Unlisted) = 0

pub grows : (j : Said) (s : List ℕ) (i : ℕ) (x : Instruction) → judge j s i ≡ Ok x → i ≤ x.length
unfolding judge
grows (whole op z o) s i x e = let l : i ≡ x.length = ap length_of e in omega arith
grows unlisted s i x e = let z : ◌≡◌ {A = ℕ} 0 1 = cc in omega arith
grows (next f) s i x e =
    let k : i + 1 ≤ x.length = grows (f (get_or s i 0)) s (i + 1) x (after_next f s i (Ok x) tt e).1 in
    omega arith
grows (number n f) s i x e =
    let k : i + n ≤ x.length = grows (f (value_of (take n (drop i s)))) s (i + n) x (after_number f s i (Ok x) tt n e).1 in
    omega arith

pub within : (j : Said) (s : List ℕ) (i : ℕ) (x : Instruction) → i ≤ length s → judge j s i ≡ Ok x → x.length ≤ length s
unfolding judge
within (whole op z o) s i x h e = let l : i ≡ x.length = ap length_of e in omega arith
within unlisted s i x h e = let z : ◌≡◌ {A = ℕ} 0 1 = cc in omega arith
within (next f) s i x h e =
    let a = after_next f s i (Ok x) tt e in
    let k : i < length s = a.0 in
    within (f (get_or s i 0)) s (i + 1) x (omega arith) a.1
within (number n f) s i x h e =
    let a = after_number f s i (Ok x) tt n e in
    within (f (value_of (take n (drop i s)))) s (i + n) x a.0 a.1

-- the bytes of the instruction are enough
pub enough : (j : Said) (p q : List ℕ) (i : ℕ) (x : Instruction) → x.length ≤ length p → judge j (p ++ q) i ≡ Ok x → judge j p i ≡ Ok x
unfolding judge
enough (whole op z o) p q i x h e = e
enough unlisted p q i x h e = e
enough (next f) p q i x h e =
    let a = after_next f (p ++ q) i (Ok x) tt e in
    let g : i + 1 ≤ x.length = grows (f (get_or (p ++ q) i 0)) (p ++ q) (i + 1) x a.1 in
    let k : i < length p = omega arith in
    step_next f p i (get_or (p ++ q) i 0) k (sym (byte_in_lem p q i k))
    ∙ enough (f (get_or (p ++ q) i 0)) p q (i + 1) x h a.1
enough (number n f) p q i x h e =
    let v = value_of (take n (drop i (p ++ q))) in
    let a = after_number f (p ++ q) i (Ok x) tt n e in
    let g : i + n ≤ x.length = grows (f v) (p ++ q) (i + n) x a.1 in
    let k : i + n ≤ length p = omega arith in
    step_number f p i n v k (sym (value_in_lem p q i n k)) ∙ enough (f v) p q (i + n) x h a.1

-- ---- the statements
pub whole_stays : WholeStays
unfolding decode_of
whole_stays s t i e = stays _ s t 0 (Ok i) tt e

pub unlisted_stays : UnlistedStays
unfolding decode_of
unlisted_stays s t e = stays _ s t 0 (Err Unlisted) tt e

pub two_bytes : TwoBytes
two_bytes b c s i e = whole_stays (b ∷ c ∷ []) s i e

pub own_bytes : OwnBytes
unfolding decode_of
own_bytes s i e =
    let n : i.length ≤ length s = within _ s 0 i (omega arith) e in
    let l : i.length ≤ length (take i.length s) = rw (length-take-le i.length s n) (omega arith) in
    enough _ (take i.length s) (drop i.length s) 0 i l (rw (take-append-drop i.length s) e)

pub same_start : SameStart
same_start s t i e h a =
    rw (← take-append-drop i.length t, ← a) (whole_stays (take i.length s) (drop i.length t) i (own_bytes s i e))
