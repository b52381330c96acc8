-- After some bytes, whatever follows them, something is said.
use Prim.Native.Nat.{ℕ, zero, suc, ◌+◌, ◌/◌, ◌<◌, ◌≤◌, ◌^◌}
use mathlib.Core.Path.{◌≡◌, ap, ◌∙◌}
use mathlib.Core.Bool.{Bool, true}
use mathlib.Core.List.{List, [], ◌∷◌, ◌++◌, append_assoc}
use native.Mathlib.Omega.{arith}
use native.Mathlib.Nat.{mod-lt}
use lib.ListN.{length, get_or, take, drop, length-append}
use lib.Seq.{get_or-append_seam, drop-append_seam, take_at}
use lib.Dec.{ltb}
use borrow.Author.Tests.{ltb-true}
use Rattle.little.specs.Bytes.{Bytes, value_of, bytes_from}
use Rattle.little.proofs.Laws.{length_bytes, value_bytes}
use Rattle.code.specs.Said.{Said, number, judge}
use Rattle.code.specs.Rows.{Row, lookup, by_rows}
use Rattle.code.proofs.Prefix.{step_next, step_number}

pub bytes_append : (p q : List ℕ) → Bytes p → Bytes q → Bytes (p ++ q)
bytes_append [] q g h k = h k
bytes_append (b ∷ p) q g h zero = g 0
bytes_append (b ∷ p) q g h (suc k) = bytes_append p q (λ j. g (suc j)) h k

-- where j is said, and then the bytes p come, k is said
pub record Says (j : Said) (p : List ℕ) (k : Said) : Type 0 where
  pub judged : (s t : List ℕ) → judge j (s ++ (p ++ t)) (length s) ≡ judge k (s ++ (p ++ t)) (length s + length p)
  pub bytes : Bytes p

-- what rows say of a byte, which is one
abbrev pub Lists : List Row → ℕ → Said → Type 0
Lists rs b j = ◌≡◌ {A = Said × Bool} (lookup rs b, ltb b 256) (j, true)

bytes_from_lem : (n v : ℕ) → Bytes (bytes_from n v)
unfolding bytes_from
bytes_from_lem zero v k = omega arith
bytes_from_lem (suc n) v zero = mod-lt v (omega arith)
bytes_from_lem (suc n) v (suc k) = bytes_from_lem n (v / 256) k

pub byte : {j : Said} (rs : List Row) (b : ℕ) → Lists rs b j → Says (by_rows rs) (b ∷ []) j
byte {j} rs b e =
    record {
      judged = λ s t.
          let l : length s < length (s ++ (b ∷ t)) = rw length-append (omega arith) in
          step_next (lookup rs) (s ++ (b ∷ t)) (length s) b l (get_or-append_seam s b t 0)
          ∙ ap (λ (k : Said). judge k (s ++ (b ∷ t)) (length s + 1)) (ap (λ (x : Said × Bool). x.0) e);
      bytes = λ k. elim k as (λ i. get_or (b ∷ []) i 0 < 2 ^ 8) [ zero ↦ ltb-true b 256 (ap (λ (x : Said × Bool). x.1) e) | suc k ↦ omega arith ];
    }

pub value : {f : ℕ → Said} (n v : ℕ) → v < 256 ^ n → Says (number n f) (bytes_from n v) (f v)
value {f} n v h =
    record {
      judged = λ s t.
          let p = bytes_from n v in
          let e : length p ≡ n = length_bytes n v in
          let l : length s + n ≤ length (s ++ (p ++ t)) = rw (length-append s (p ++ t), length-append p t) (omega arith) in
          let w : value_of (take n (drop (length s) (s ++ (p ++ t)))) ≡ v = rw (drop-append_seam s (p ++ t), take_at p t n e) (value_bytes n v h) in
          rw e (step_number f (s ++ (p ++ t)) (length s) n v l w);
      bytes = bytes_from_lem n v;
    }

pub next : {j k l : Said} {p q : List ℕ} → Says j p k → Says k q l → Says j (p ++ q) l
next {j} {k} {l} {p} {q} a b =
    record {
      judged = λ s t.
          let n : length s + length p + length q ≡ length s + length (p ++ q) = rw length-append (omega arith) in
          let x : judge k (s ++ (p ++ (q ++ t))) (length s + length p) ≡ judge l (s ++ (p ++ (q ++ t))) (length s + length p + length q) =
          rw (append_assoc s p (q ++ t), length-append s p) at (b.judged (s ++ p) t) in
          rw (append_assoc p q t) (a.judged s (q ++ t) ∙ (x ∙ ap (λ (m : ℕ). judge l (s ++ (p ++ (q ++ t))) m) n));
      bytes = bytes_append p q a.bytes b.bytes;
    }
