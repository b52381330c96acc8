-- The quotient and the remainder that / and %, quot_z and rem_z compute divide, and no others do.
use mathlib.Core.Path.{◌≡◌, refl, sym, ap, ap₂, ◌∙◌, subst}
use mathlib.Core.Bool.{Bool, true, false, not}
use mathlib.Core.Logic.{◌⊎◌, inl, inr, ⊎_elim}
use Prim.Native.Nat.{ℕ, zero, suc, ◌+◌, ◌-◌, ◌*◌, ◌/◌, ◌%◌, ◌≤◌, ◌<◌}
use native.Mathlib.Nat.{mod-lt, mod-le, mod-eq_of_lt, div-eq_of_lt, div-add-mod', mul-add-div_right, mul-add-mod_self_right, not-suc-le-zero, add-zero, suc-mul}
use native.Mathlib.Omega.{arith}
use lib.IntN.{ℤ, pos, negsuc, nat_abs, ◌+ℤ◌, ◌*ℤ◌}
use lib.Signed.{quot_z, rem_z, non_neg}
use borrow.Author.Tests.{lt-ltb, le-ltb}
use Rattle.feed.specs.Division.{Divides, SignedDivides}
use Rattle.feed.proofs.Signs.{sg, differ, parts, abs_sg, zero_sign, times, plus, quotient, remainder}

-- ---- without a sign
pub divided : (x y : ℕ) → 0 < y → Divides x y (x / y) (x % y)
divided x y p = record { exact = sym (div-add-mod' x y); smaller = mod-lt x p }

pub divided_only : (x y q r : ℕ) → Divides x y q r → (q ≡ x / y) × (r ≡ x % y)
divided_only x y q r d =
    let l = d.smaller in
    let p : 0 < y = omega arith in
    let e : q + r / y ≡ q = rw (div-eq_of_lt l) (add-zero q) in (
      sym (ap (λ (n : ℕ). n / y) d.exact ∙ mul-add-div_right p q r ∙ e),
      sym (ap (λ (n : ℕ). n % y) d.exact ∙ mul-add-mod_self_right q y r ∙ mod-eq_of_lt l),
    )

-- ---- with a sign: there is one
same_sign : (s : Bool) (r m : ℕ) → r ≤ m → (sg s r ≡ pos 0) ⊎ (non_neg (sg s r) ≡ non_neg (sg s m))
same_sign s zero m h = inl (zero_sign s)
same_sign s (suc r) zero h = absurd (not-suc-le-zero h)
same_sign true (suc r) (suc m) h = inr refl
same_sign false (suc r) (suc m) h = inr refl

turned_twice : (s t : Bool) → differ (differ s t) t ≡ s
turned_twice true true = refl
turned_twice true false = refl
turned_twice false true = refl
turned_twice false false = refl

divided_sg : (s t : Bool) (m n : ℕ) → 0 < n → SignedDivides (sg s m) (sg t n) (sg (differ s t) (m / n)) (sg s (m % n))
divided_sg s t m n p = record {
  exact = sym
      (ap (λ (z : ℤ). z +ℤ sg s (m % n)) (times (differ s t) t (m / n) n ∙ ap (λ (b : Bool). sg b (m / n * n)) (turned_twice s t))
      ∙ plus s (m / n * n) (m % n)
      ∙ ap (sg s) (div-add-mod' m n));
  smaller = rw (abs_sg s (m % n), abs_sg t n) (mod-lt m p);
  sign = same_sign s (m % n) m (mod-le m n);
}

pub signed_divided : (x y : ℤ) → 0 < nat_abs y → SignedDivides x y (quot_z x y) (rem_z x y)
signed_divided (pos m) (pos n) p = divided_sg false false m n p
signed_divided (pos m) (negsuc n) p = divided_sg false true m (suc n) p
signed_divided (negsuc m) (pos n) p = divided_sg true false (suc m) n p
signed_divided (negsuc m) (negsuc n) p = divided_sg true true (suc m) (suc n) p

-- ---- and no other
-- of different signs, the larger one wins
less : (s : Bool) (m n : ℕ) → n < m → sg (not s) m +ℤ sg s n ≡ sg (not s) (m - n)
less s zero n h = absurd (not-suc-le-zero h)
less false (suc m) n h = rw (lt-ltb n (suc m) h) (ap (sg true) (one_more m n h))
  where
    one_more : (m n : ℕ) → n < suc m → suc (suc m - suc n) ≡ suc m - n
    one_more m n h = omega arith
less true (suc m) zero h = ap pos (none m)
  where
    none : (m : ℕ) → suc m + 0 ≡ suc m - 0
    none m = omega arith
less true (suc m) (suc n) h = rw (le-ltb (suc m) (suc n) (omega arith)) refl

-- a number of both signs is 0
apart : (s : Bool) (m d : ℕ) → sg s m ≡ sg (not s) d → d ≡ 0
apart s m zero e = refl
apart false m (suc d) e = let z : ◌≡◌ {A = ℕ} 0 1 = cc in absurd (omega arith)
apart true zero (suc d) e = let z : 0 ≡ suc d = cc in absurd (omega arith)
apart true (suc m) (suc d) e = let z : ◌≡◌ {A = ℕ} 0 1 = cc in absurd (omega arith)

-- a quotient has the sign that the two signs make, or its product has the other one
either : (w s t : Bool) → (w ≡ differ s t) ⊎ (differ w t ≡ not s)
either true true true = inr refl
either true true false = inl refl
either true false true = inl refl
either true false false = inr refl
either false true true = inl refl
either false true false = inr refl
either false false true = inr refl
either false false false = inl refl

module _ (s t : Bool) (m n r : ℕ) (l : r < n) where
  -- q and r are the quotient and the remainder
  abbrev Found : ℤ → Type 0
  Found q = (q ≡ sg (differ s t) (m / n)) × (sg s r ≡ sg s (m % n))

  abbrev Exact : ℤ → Type 0
  Exact q = sg s m ≡ q *ℤ sg t n +ℤ sg s r

  -- q has the sign that the two signs make
  right_sign : (a : ℕ) → Exact (sg (differ s t) a) → Found (sg (differ s t) a)
  right_sign a e =
      let u = times (differ s t) t a n ∙ ap (λ (b : Bool). sg b (a * n)) (turned_twice s t) in
      let f = e ∙ ap (λ (z : ℤ). z +ℤ sg s r) u ∙ plus s (a * n) r in
      let g : m ≡ a * n + r = sym (abs_sg s m) ∙ ap nat_abs f ∙ abs_sg s (a * n + r) in
      let o = divided_only m n a r (record { exact = g; smaller = l }) in
      (ap (sg (differ s t)) o.0, ap (sg s) o.1)

  -- with the other sign, a product as large as the divisor leads past zero
  wrong_sign : (w : Bool) (a : ℕ) → differ w t ≡ not s → Exact (sg w (suc a)) → ⊥
  wrong_sign w a d e =
      let h : r < suc a * n = omega (arith, suc-mul a n) in
      let u = times w t (suc a) n ∙ ap (λ (b : Bool). sg b (suc a * n)) d in
      let f = e ∙ ap (λ (z : ℤ). z +ℤ sg s r) u ∙ less s (suc a * n) r h in
      omega (arith, apart s m (suc a * n - r) f)

  turned : (q : ℤ) (a : ℕ) → q ≡ sg (differ s t) a → Exact q → Found q
  turned q a z e = subst Found (sym z) (right_sign a (subst Exact z e))

  only : (w : Bool) (a : ℕ) → Exact (sg w a) → Found (sg w a)
  only w zero e = turned (sg w 0) 0 (zero_sign w ∙ sym (zero_sign (differ s t))) e
  only w (suc a) e =
      ⊎_elim (λ d. turned (sg w (suc a)) (suc a) (ap (λ (b : Bool). sg b (suc a)) d) e) (λ d. absurd (wrong_sign w a d e)) (either w s t)

-- a remainder with the dividend's sign, also where it is 0
sign_of : (x r : ℤ) → (r ≡ pos 0) ⊎ (non_neg r ≡ non_neg x) → r ≡ sg (not (non_neg x)) (nat_abs r)
sign_of x r (inl e) = e ∙ sym (zero_sign (not (non_neg x))) ∙ ap (λ (z : ℤ). sg (not (non_neg x)) (nat_abs z)) (sym e)
sign_of x r (inr e) = parts r ∙ ap (λ (b : Bool). sg (not b) (nat_abs r)) e

pub signed_divided_only : (x y q r : ℤ) → SignedDivides x y q r → (q ≡ quot_z x y) × (r ≡ rem_z x y)
signed_divided_only x y q r d =
    let s = not (non_neg x) in
    let t = not (non_neg y) in
    let w = not (non_neg q) in
    let e = sign_of x r d.sign in
    let f = sym (parts x) ∙ d.exact ∙ ap₂ ◌+ℤ◌ (ap₂ ◌*ℤ◌ (parts q) (parts y)) e in
    let o = only s t (nat_abs x) (nat_abs y) (nat_abs r) d.smaller w (nat_abs q) f in (
      parts q ∙ o.0 ∙ sym (quotient s t (nat_abs x) (nat_abs y)) ∙ ap₂ quot_z (sym (parts x)) (sym (parts y)),
      e ∙ o.1 ∙ sym (remainder s t (nat_abs x) (nat_abs y)) ∙ ap₂ rem_z (sym (parts x)) (sym (parts y)),
    )
