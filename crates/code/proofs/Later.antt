-- A code without its first bytes: what is judged of the rest is judged of the whole, and its instruction has those bytes more.
use Prim.Native.Nat.{ℕ, ◌+◌, ◌-◌, ◌≤◌, ◌<◌}
use mathlib.Core.Path.{◌≡◌, refl, sym}
use mathlib.Core.Bool.{Bool, true, false, cond}
use mathlib.Core.List.{List}
use native.Mathlib.Omega.{arith}
use native.Mathlib.Nat.{add_assoc, add_comm}
use lib.Dec.{ltb, leb}
use lib.ListN.{length, get_or, take, drop, length-drop}
use lib.Seq.{get_or-drop, drop-drop, take_all}
use borrow.Author.Tests.{ltb-true, ltb-false, lt-ltb, le-ltb, leb-true, leb-false, le-leb, lt-leb}
use Rattle.code.specs.declared.Instruction.{Instruction}
use Rattle.code.specs.Said.{Said, whole, unlisted, next, number, judge, number_at, with_found}
use Rattle.code.specs.inner.Parts.{longer}
use Rattle.code.proofs.Prefix.{after_next, within}
use Rattle.std.proofs.Common.{Some, None, Option, Ok, Err}
use Rattle.code.specs.Unread.{Decoded}
use Rattle.code.specs.declared.Unread.TheVariants.{Short}

module _ (n : ℕ) (s : List ℕ) (k : n ≤ length s) where
  byte_there : (i : ℕ) → ltb i (length (drop n s)) ≡ ltb (n + i) (length s)
  byte_there i = go (ltb (n + i) (length s)) refl
    where
      go : (b : Bool) → ltb (n + i) (length s) ≡ b → ltb i (length (drop n s)) ≡ b
      go true e = lt-ltb i (length (drop n s)) (rw length-drop (omega (arith, ltb-true (n + i) (length s) e)))
      go false e = le-ltb i (length (drop n s)) (rw length-drop (omega (arith, ltb-false (n + i) (length s) e)))

  number_there : (i m : ℕ) → leb (i + m) (length (drop n s)) ≡ leb (n + i + m) (length s)
  number_there i m = go (leb (n + i + m) (length s)) refl
    where
      go : (b : Bool) → leb (n + i + m) (length s) ≡ b → leb (i + m) (length (drop n s)) ≡ b
      go true e = le-leb (i + m) (length (drop n s)) (rw length-drop (omega (arith, leb-true (n + i + m) (length s) e)))
      go false e = lt-leb (i + m) (length (drop n s)) (rw length-drop (omega (arith, leb-false (n + i + m) (length s) e)))

  same_number : (i m : ℕ) → number_at (drop n s) i m ≡ number_at s (n + i) m
  unfolding number_at
  same_number i m = rw (number_there i m, drop-drop i n s) refl

  -- what follows, where it is there and judged so
  next_later : (x y : Decoded) → x ≡ longer n y → (b : Bool) → cond b x (Err Short) ≡ longer n (cond b y (Err Short))
  next_later x y e true = e
  next_later x y e false = refl

  number_later : (f g : ℕ → Decoded) → ((v : ℕ) → f v ≡ longer n (g v)) → (w : Option ℕ) → with_found w f ≡ longer n (with_found w g)
  number_later f g e (Some v) = e v
  number_later f g e None = refl

  pub judged_later : (d : Said) (i : ℕ) → judge d s (n + i) ≡ longer n (judge d (drop n s) i)
  unfolding judge
  judged_later (whole op z o) i = refl
  judged_later unlisted i = refl
  judged_later (next f) i =
      let v = get_or s (n + i) 0 in
      rw (byte_there i, get_or-drop n s i 0)
      (next_later _ _ (rw (add_assoc n i 1) (judged_later (f v) (i + 1))) (ltb (n + i) (length s)))
  judged_later (number m f) i =
      rw (same_number i m)
      (number_later _ _ (λ v. rw (add_assoc n i m) (judged_later (f v) (i + m))) (number_at s (n + i) m))

-- the same of the part of a code from n on, and that an instruction in it ends within the code
module _ (n : ℕ) (s : List ℕ) (k : n ≤ length s) (f : ℕ → Said) where
  part_drop : take (length s - n) (drop n s) ≡ drop n s
  part_drop = take_all (length s - n) (drop n s) (rw length-drop (omega arith))

  pub part_later : longer n (judge (next f) (take (length s - n) (drop n s)) 1) ≡ judge (next f) s (1 + n)
  part_later = rw (part_drop, add_comm 1 n) (sym (judged_later n s k (next f) 1))

  pub part_within : (x : Instruction) → judge (next f) (take (length s - n) (drop n s)) 1 ≡ Ok x → n + x.length ≤ length s
  part_within x e =
      let d : judge (next f) (drop n s) 1 ≡ Ok x = rw part_drop at e in
      let l : 1 < length (drop n s) = (after_next f (drop n s) 1 (Ok x) tt d).0 in
      let h : x.length ≤ length (drop n s) = within (next f) (drop n s) 1 x (omega arith) d in
      omega (arith, length-drop n s)
