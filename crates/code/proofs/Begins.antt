-- Bytes that are refused as short do begin a listed instruction: some bytes more make it whole.
use Prim.Native.Nat.{ℕ, zero, suc, ◌+◌, ◌-◌, ◌≤◌, ◌<◌, ◌^◌}
use mathlib.Core.Path.{◌≡◌, refl, subst, ◌∙◌}
use mathlib.Core.Bool.{Bool, true, false, cond}
use mathlib.Core.List.{List, [], ◌∷◌, ◌++◌, append_assoc}
use mathlib.Core.Logic.{◌⊎◌, inl, inr}
use native.Mathlib.Omega.{arith}
use lib.ListN.{length, get_or, take, drop, length-append, replicate, length-replicate}
use lib.Seq.{get_or-append_seam}
use lib.Dec.{ltb, leb}
use borrow.Author.Tests.{ltb-true, ltb-false, leb-true, leb-false}
use Rattle.little.specs.Bytes.{Bytes, value_of, bytes_from}
use Rattle.code.specs.declared.Instruction.{Instruction}
use Rattle.code.specs.Said.{Said, whole, unlisted, next, number, judge, number_at, with_found}
use Rattle.code.specs.Rows.{by_rows}
use Rattle.code.specs.Listed.{first_rows, decode_of}
use Rattle.code.specs.Laws.{ShortBegins}
use Rattle.code.proofs.Prefix.{step_next, step_number, byte_in_lem, value_in_lem, longer}
use Rattle.code.proofs.Says.{bytes_append}
use Rattle.code.proofs.Walk.{Can, Walk}
use Rattle.code.proofs.Codes.{first_rows_lem}
use Rattle.std.proofs.Common.{Some, None, Ok, Err}
use Rattle.code.specs.declared.Unread.TheVariants.{Short}

-- ---- more bytes, all of them bytes
abbrev Ends : Said → List ℕ → ℕ → Type 0
Ends j s i = (t : List ℕ) × (x : Instruction) × (Bytes t) × (judge j (s ++ t) i ≡ Ok x)

no_bytes : Bytes []
no_bytes k = omega arith

zero_bytes : (n : ℕ) → Bytes (replicate n 0)
zero_bytes zero k = omega arith
zero_bytes (suc n) zero = omega arith
zero_bytes (suc n) (suc k) = zero_bytes n k

-- what ends after p is added ends
add : (j : Said) (s p : List ℕ) (i : ℕ) → Bytes p → Ends j (s ++ p) i → Ends j s i
add j s p i g e = (p ++ e.0, e.1, bytes_append p e.0 g e.2, rw (← append_assoc s p e.0) e.3)

-- a number of which some bytes are there, and then what follows it
fill :
    (n : ℕ) (f : ℕ → Said) (i : ℕ) (s : List ℕ) → i ≤ length s → length s ≤ i + n →
    ((v : ℕ) (p : List ℕ) → Ends (f v) p (length p)) → Ends (number n f) s i
fill n f i s h k c =
    let p : List ℕ = replicate (i + n - length s) 0 in
    let l : length (s ++ p) ≡ i + n = rw (length-append s p, length-replicate {A = ℕ} (i + n - length s) 0) (omega arith) in
    let m : i + n ≤ length (s ++ p) = rw l (omega arith) in
    let v = value_of (take n (drop i (s ++ p))) in
    let r : Ends (f v) (s ++ p) (i + n) = subst (λ (m : ℕ). Ends (f v) (s ++ p) m) l (c v (s ++ p)) in
    add (number n f) s p i (zero_bytes (i + n - length s))
    (r.0, r.1, r.2, step_number f ((s ++ p) ++ r.0) i n v (longer (s ++ p) r.0 i (i + n) m) (value_in_lem (s ++ p) r.0 i n m) ∙ r.3)

ends : (j : Said) → Can j → (s : List ℕ) → Ends j s (length s)
unfolding judge
ends (whole op z o) c s = ([], _, no_bytes, refl)
ends unlisted c s = absurd c
ends (next f) c s =
    let b = c.0 in
    let p = s ++ (b ∷ []) in
    let l : length p ≡ length s + 1 = length-append s (b ∷ []) in
    let h : length s < length p = rw l (omega arith) in
    let one : Bytes (b ∷ []) = λ k. elim k as (λ i. get_or (b ∷ []) i 0 < 2 ^ 8) [ zero ↦ c.1 | suc k ↦ omega arith ] in
    let r : Ends (f b) p (length s + 1) = subst (λ (n : ℕ). Ends (f b) p n) l (ends (f b) c.2 p) in
    add (next f) s (b ∷ []) (length s) one
    (r.0, r.1, r.2, step_next f (p ++ r.0) (length s) b (longer p r.0 (length s) (suc (length s)) h) (byte_in_lem p r.0 (length s) h ∙ get_or-append_seam s b [] 0) ∙ r.3)
ends (number n f) c s = fill n f (length s) s (omega arith) (omega arith) (λ v p. ends (f v) (c v) p)

-- ---- where the bytes end
short_next :
    (f : ℕ → Said) (s : List ℕ) (i : ℕ) → judge (next f) s i ≡ Err Short →
    ((i < length s) × (judge (f (get_or s i 0)) s (i + 1) ≡ Err Short)) ⊎ (length s ≤ i)
unfolding judge
short_next f s i = go (ltb i (length s)) refl
  where
    go :
        (t : Bool) → ltb i (length s) ≡ t → cond t (judge (f (get_or s i 0)) s (i + 1)) (Err Short) ≡ Err Short →
        ((i < length s) × (judge (f (get_or s i 0)) s (i + 1) ≡ Err Short)) ⊎ (length s ≤ i)
    go true e h = inl (ltb-true _ _ e, h)
    go false e h = inr (ltb-false _ _ e)

short_number :
    (f : ℕ → Said) (s : List ℕ) (i n : ℕ) → judge (number n f) s i ≡ Err Short →
    ((i + n ≤ length s) × (judge (f (value_of (take n (drop i s)))) s (i + n) ≡ Err Short)) ⊎ (length s ≤ i + n)
unfolding judge number_at
short_number f s i n = go (leb (i + n) (length s)) refl
  where
    go :
        (t : Bool) → leb (i + n) (length s) ≡ t →
        with_found (cond t (Some (value_of (take n (drop i s)))) None) (λ v. judge (f v) s (i + n)) ≡ Err Short →
        ((i + n ≤ length s) × (judge (f (value_of (take n (drop i s)))) s (i + n) ≡ Err Short)) ⊎ (length s ≤ i + n)
    go true e h = inl (leb-true _ _ e, h)
    go false e h = inr (let l : length s < i + n = leb-false _ _ e in omega arith)

begins : (j : Said) (s : List ℕ) (i : ℕ) (p : List ℕ) → Walk ⊥ j i p → i ≤ length s → judge j s i ≡ Err Short → Ends j s i
unfolding judge
begins (whole op z o) s i p g h e = let x : ◌≡◌ {A = ℕ} 0 1 = cc in let y : ⊥ = omega arith in absurd y
begins unlisted s i p g h e = let x : ◌≡◌ {A = ℕ} 0 1 = cc in let y : ⊥ = omega arith in absurd y
begins (next f) s i p g h e =
    let b = get_or s i 0 in
    elim (short_next f s i e) [
      | inl a ↦
          (let k : i < length s = a.0 in
          let r = begins (f b) s (i + 1) (p ++ (b ∷ [])) (g.1 b) (omega arith) a.1 in
          (r.0, r.1, r.2, step_next f (s ++ r.0) i b (longer s r.0 i (suc i) a.0) (byte_in_lem s r.0 i a.0) ∙ r.3))
      | inr l ↦ (let q : length s ≡ i = omega arith in subst (λ (n : ℕ). Ends (next f) s n) q (ends (next f) g.0 s))
    ]
begins (number n f) s i p g h e =
    let v = value_of (take n (drop i s)) in
    elim (short_number f s i n e) [
      | inl a ↦
          (let r = begins (f v) s (i + n) (p ++ bytes_from n v) (g.1 v (λ y. absurd y)) a.0 a.1 in
          (r.0, r.1, r.2, step_number f (s ++ r.0) i n v (longer s r.0 i (i + n) a.0) (value_in_lem s r.0 i n a.0) ∙ r.3))
      | inr l ↦ fill n f i s h l (λ w p. ends (f w) (g.0 w) p)
    ]

pub short_begins : ShortBegins
unfolding decode_of
short_begins s e = begins (by_rows first_rows) s 0 [] (first_rows_lem ⊥) (omega arith) e
