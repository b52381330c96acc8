-- The count of rounds, when a form goes on, and where its pointers are after some rounds.
use Prim.Native.Nat.{ℕ, suc, ◌+◌, ◌-◌, ◌*◌, ◌%◌, ◌^◌, ◌<◌, ◌≤◌}
use mathlib.Core.Path.{◌≡◌, refl, ap, sym, ◌∙◌}
use mathlib.Core.Logic.{◌⊎◌, inl, inr, ◌≢◌}
use mathlib.Core.List.{List}
use mathlib.Core.Bool.{Bool, true, false, cond, not, ◌&&◌}
use native.Mathlib.Omega.{arith}
use native.Mathlib.Nat.{mod-add-mod, suc-mul, zero-mul, add-zero, add_assoc, add_comm, mod-eq_of_lt}
use lib.Dec.{eqb}
use borrow.Author.Tests.{eq-eqb, ne_eqb, eqb-true, eqb-false}
use Rattle.answer.specs.declared.Why.{Why}
use Rattle.little.specs.Width.{bytes_of}
use Rattle.little.specs.declared.Size.TheVariants.{Word}
use Rattle.state.specs.declared.State.{State}
use Rattle.state.proofs.Laws.{register_lt}
use Rattle.code.specs.declared.Form.{Form}
use Rattle.operand.specs.Try.{did, no}
use Rattle.operand.specs.Round.{less, plus}
use Rattle.block.specs.Block.{count_in, more_in, round_of, equal_in, goes_on}
use Rattle.run.specs.Demand.{rounds_of, count_of, passed}
use Rattle.run.proofs.Registers.{once}

-- ---- the count
pub count_some : (s : State) → (0 < count_of s) × (count_of s ≤ 65536)
unfolding count_of
count_some s = go (eqb (count_in s) 0) refl
  where
    go : (b : Bool) → eqb (count_in s) 0 ≡ b → (0 < cond b (2 ^ 16) (count_in s)) × (cond b (2 ^ 16) (count_in s) ≤ 65536)
    go true e = (omega arith, omega arith)
    go false e =
        let h : count_in s ≢ 0 = eqb-false (count_in s) 0 e in
        let k = register_lt s Word 1 in
        (omega arith, omega arith)

-- BC after a round is the count before it less one
pub count_round : (s t : State) → count_in t ≡ less 16 (count_in s) 1 → count_in t + 1 ≡ count_of s
unfolding count_of
count_round s t h = go (eqb (count_in s) 0) refl
  where
    go : (b : Bool) → eqb (count_in s) 0 ≡ b → count_in t + 1 ≡ cond b (2 ^ 16) (count_in s)
    go true e = let z : count_in s ≡ 0 = eqb-true (count_in s) 0 e in omega arith
    go false e =
        let z : count_in s ≢ 0 = eqb-false (count_in s) 0 e in
        let k = register_lt s Word 1 in
        omega arith

pub count_bc : (t : State) → 0 < count_in t → count_of t ≡ count_in t
unfolding count_of
count_bc t h = rw (ne_eqb (count_in t) 0 (λ (e : count_in t ≡ 0). omega arith)) refl

-- ---- when a form goes on
pub goes_on_lem : (f : Form) (t : State) → f.again ≡ true → 0 < count_in t → equal_in f t ≡ false → goes_on f t ≡ true
unfolding goes_on
goes_on_lem f t a h e =
    ap (λ (b : Bool). b && (more_in t && not (equal_in f t))) a
    ∙ ap (λ (b : Bool). not b && not (equal_in f t)) (ne_eqb (count_in t) 0 (λ (z : count_in t ≡ 0). omega arith))
    ∙ ap not e

and-false : (a : Bool) → (a && false) ≡ false
and-false true = refl
and-false false = refl

pub goes_not : (f : Form) (t : State) → (count_in t ≡ 0) ⊎ (equal_in f t ≡ true) → goes_on f t ≡ false
unfolding goes_on
goes_not f t (inl z) =
    ap (λ (b : Bool). f.again && (not b && not (equal_in f t))) (eq-eqb (count_in t) 0 z) ∙ and-false f.again
goes_not f t (inr z) =
    ap (λ (b : Bool). f.again && (more_in t && not b)) z
    ∙ ap (λ (b : Bool). f.again && b) (and-false (more_in t))
    ∙ and-false f.again

-- ---- many rounds
pub rounds_none : (f : Form) (s : State) (ram rom : List ℕ) → rounds_of 0 f s ram rom ≡ did s ram
unfolding rounds_of
rounds_none f s ram rom = refl

pub rounds_did :
    (n : ℕ) (f : Form) (s : State) (ram rom : List ℕ) (u : State) (v : List ℕ) → round_of f s ram rom ≡ did u v
    → rounds_of (suc n) f s ram rom ≡ rounds_of n f u v rom
unfolding rounds_of
rounds_did n f s ram rom u v e = rw (e, rounds_of)

pub rounds_no : (n : ℕ) (f : Form) (s : State) (ram rom : List ℕ) (w : Why) → round_of f s ram rom ≡ no w → rounds_of (suc n) f s ram rom ≡ no w
unfolding rounds_of
rounds_no n f s ram rom w e = rw (e, rounds_of)

-- ---- a pointer that passes elements
more_of : (m x k i : ℕ) → ((x + k) % m + i * k) % m ≡ (x + suc i * k) % m
more_of m x k i =
    mod-add-mod (x + k) m (i * k)
    ∙ ap (λ (n : ℕ). n % m) (add_assoc x k (i * k) ∙ ap (λ (n : ℕ). x + n) (add_comm k (i * k) ∙ sym (suc-mul i k)))

pub passed_more : (f : Form) (x i : ℕ) → passed f (once f x) i ≡ passed f x (suc i)
unfolding passed once
passed_more f x i = go f.up
  where
    n : ℕ
    n = bytes_of f.size

    go : (b : Bool)
        → cond b ((cond b (plus 32 x n) (less 32 x n) + i * n) % 2 ^ 32) ((cond b (plus 32 x n) (less 32 x n) + i * (2 ^ 32 - n)) % 2 ^ 32)
        ≡ cond b ((x + suc i * n) % 2 ^ 32) ((x + suc i * (2 ^ 32 - n)) % 2 ^ 32)
    go true = more_of (2 ^ 32) x n i
    go false = more_of (2 ^ 32) x (2 ^ 32 - n) i

pub passed_none : (f : Form) (x : ℕ) → x < 2 ^ 32 → passed f x 0 ≡ x
unfolding passed
passed_none f x h = go f.up
  where
    n : ℕ
    n = bytes_of f.size

    zero_of : (k : ℕ) → (x + 0 * k) % 2 ^ 32 ≡ x
    zero_of k = rw (zero-mul k, add-zero x) (mod-eq_of_lt h)

    go : (b : Bool) → cond b ((x + 0 * n) % 2 ^ 32) ((x + 0 * (2 ^ 32 - n)) % 2 ^ 32) ≡ x
    go true = zero_of n
    go false = zero_of (2 ^ 32 - n)
