-- A pointer goes round in its table: the statements of specs/Tables.antt.
use mathlib.Core.Path.{◌≡◌, refl, sym, ap, ◌∙◌}
use mathlib.Core.Bool.{Bool, true, false}
use Prim.Native.Nat.{ℕ, suc, ◌+◌, ◌-◌, ◌*◌, ◌^◌, ◌≤◌, ◌<◌}
use native.Mathlib.Nat.{mul-one, mul-suc, add_comm}
use native.Mathlib.Omega.{arith}
use borrow.Author.Tests.{leb-true, leb-false}
use lib.Dec.{leb}
use lib.Pow.{pow_pos, pow-lt, pow-add}
use Rattle.feed.specs.declared.cycle.Stride.{Stride}
use Rattle.feed.specs.declared.cycle.Stride.TheVariants.{One, Two, Four}
use Rattle.feed.specs.Cycle.{stride_step, is_table}
use Rattle.feed.specs.Tables.{AtEntry, minc_times, mdec_times, MincGoesRound, MincReturns, MdecUndoes, MdecReturns, StaysInTable}
use Rattle.feed.proofs.Powers.{Power, power, both}
use Rattle.feed.proofs.Round.{Divided, Place, Walk, placed, minc_one, mdec_one, goes, stays, returns, undone}

-- ---- a table is divided by its step, and divides 2 ^ 16

-- a step is a power of two as well
exponent_of : Stride → ℕ
exponent_of One = 0
exponent_of Two = 1
exponent_of Four = 2

step_power : (s : Stride) → stride_step s ≡ 2 ^ exponent_of s
unfolding exponent_of
step_power One = refl
step_power Two = refl
step_power Four = refl

-- the smaller of two powers has the smaller exponent
exponent_le : (i k : ℕ) → 2 ^ i ≤ 2 ^ k → i ≤ k
exponent_le i k h = go (leb i k) refl
  where
    go : (b : Bool) → leb i k ≡ b → i ≤ k
    go true t = leb-true i k t
    go false t = let l : 2 ^ k < 2 ^ i = pow-lt (leb-false i k t) in absurd (omega arith)

powers_divide : (i k s last : ℕ) → s ≡ 2 ^ i → last + s ≡ 2 ^ k → k ≤ 15 → Divided s last (last + s)
powers_divide i k s last a b h =
    let l : i ≤ k = exponent_le i k (omega arith) in
    let n : i + (k - i) ≡ k = omega arith in
    let m : 2 ^ k ≡ s * 2 ^ (k - i) = ap (λ (x : ℕ). 2 ^ x) (sym n) ∙ rw a (pow-add 2 i (k - i)) in
    let p : 0 < 2 ^ (k - i) = pow_pos (k - i) in
    let o : 2 ^ (k - i) ≡ suc (2 ^ (k - i) - 1) = omega arith in
    let c : s * 2 ^ (k - i) ≡ s * (2 ^ (k - i) - 1) + s = ap (λ (x : ℕ). s * x) o ∙ mul-suc s (2 ^ (k - i) - 1) in
    let w : k + (16 - k) ≡ 16 = omega arith in
    let d : 65536 ≡ 2 ^ k * 2 ^ (16 - k) = ap (λ (x : ℕ). 2 ^ x) (sym w) ∙ pow-add 2 k (16 - k) in
    let z : 0 < 2 ^ i = pow_pos i in
    record { e = 2 ^ (k - i) - 1; j = 2 ^ (16 - k); pos = omega arith; is = refl; steps = omega arith; words = rw b d }

table : (s : Stride) (last : ℕ) → is_table s last ≡ true → Divided (stride_step s) last (last + stride_step s)
unfolding is_table
table s last t =
    let p : Power 15 (last + stride_step s) = power 15 (last + stride_step s) (both _ _ t).0 in
    powers_divide (exponent_of s) p.exponent (stride_step s) last (step_power s) p.is p.most

-- ---- MINC and MDEC walk in it
module _ (s : Stride) (last : ℕ) (div : Divided (stride_step s) last (last + stride_step s)) where
  ups : (x : ℕ) → Walk (stride_step s) (last + stride_step s) div.j (stride_step s) (λ n. minc_times n s last x)
  unfolding minc_times
  ups x = record { times = 1; by = sym (mul-one (stride_step s)); on = λ n p. minc_one (stride_step s) last (last + stride_step s) div _ p }

  downs : (x : ℕ) → Walk (stride_step s) (last + stride_step s) div.j last (λ n. mdec_times n s last x)
  unfolding mdec_times
  downs x = record { times = div.e; by = div.steps; on = λ n p. mdec_one (stride_step s) last (last + stride_step s) div _ p }

-- ---- the statements
abbrev at_place :
    (s : Stride) (last x : ℕ) (a : AtEntry s last x) → Place (stride_step s) (last + stride_step s) (table s last a.allowed).j x
at_place s last x a = placed (stride_step s) last (last + stride_step s) (table s last a.allowed) x a.word a.entry

pub minc_goes_round : MincGoesRound
unfolding minc_times
minc_goes_round s last x n a =
    let div = table s last a.allowed in
    goes (stride_step s) last (last + stride_step s) div (λ n. minc_times n s last x) (stride_step s) (ups s last div x) (at_place s last x a) n

pub minc_returns : MincReturns
unfolding minc_times
minc_returns s last x a =
    let div = table s last a.allowed in
    returns (stride_step s) last (last + stride_step s) div (λ n. minc_times n s last x) (stride_step s) (ups s last div x) (at_place s last x a)

pub mdec_undoes : MdecUndoes
unfolding minc_times mdec_times
mdec_undoes s last x n a =
    let div = table s last a.allowed in
    let p = at_place s last x a in
    let num = last + stride_step s in
    let up : ℕ → ℕ → ℕ = λ y n. minc_times n s last y in
    let down : ℕ → ℕ → ℕ = λ y n. mdec_times n s last y in (
      undone (stride_step s) last num div (up x) (down (up x n)) (stride_step s) last (ups s last div x) (downs s last div (up x n)) (add_comm (stride_step s) last) p n refl,
      undone (stride_step s) last num div (down x) (up (down x n)) last (stride_step s) (downs s last div x) (ups s last div (down x n)) refl p n refl,
    )

pub mdec_returns : MdecReturns
unfolding mdec_times
mdec_returns s last x a =
    let div = table s last a.allowed in
    returns (stride_step s) last (last + stride_step s) div (λ n. mdec_times n s last x) last (downs s last div x) (at_place s last x a)

pub stays_in_table : StaysInTable
unfolding minc_times mdec_times
stays_in_table s last x n a =
    let div = table s last a.allowed in
    let p = at_place s last x a in (
      stays (stride_step s) last (last + stride_step s) div (λ n. minc_times n s last x) (stride_step s) (ups s last div x) p n,
      stays (stride_step s) last (last + stride_step s) div (λ n. mdec_times n s last x) last (downs s last div x) p n,
    )
