-- Overflow by signs is overflow by range. Here h is the weight of the top bit, x and y are below h + h, and c is a carry.
-- A number z stands for z, or for z - (h + h) where it is at least h.
use mathlib.Core.Path.{◌≡◌, refl, ap, ◌∙◌}
use mathlib.Core.Bool.{Bool, not, cond, ◌&&◌}
use Prim.Native.Nat.{ℕ, ◌+◌, ◌-◌, ◌%◌, ◌≤◌, ◌<◌}
use native.Mathlib.Nat.{mod-eq_of_lt, add-mod_right, lt_of_not-le}
use native.Mathlib.Decide.{dec_le}
use native.Mathlib.Omega.{arith}
use lib.Dec.{leb, ltb}
use borrow.Author.Tests.{lt-ltb, le-ltb, le-leb, lt-leb}
use Rattle.flags.specs.Sums.{turned}

-- what the five tests of a case find: the two signs and that of the result, and that the exact number is neither too low nor too high
found :
    {x y r l g x' y' r' l' g' : Bool} → x ≡ x' → y ≡ y' → r ≡ r' → l ≡ l' → g ≡ g' →
    turned x' y' r' ≡ not (l' && g') → turned x y r ≡ not (l && g)
found ex ey er el eg e = rw (ex, ey, er, el, eg) e

-- the sign of a number n that stays below m, and of one that is m more than r
stays : (h m n : ℕ) {b : Bool} → n < m → leb h n ≡ b → leb h (n % m) ≡ b
stays h m n l e = ap (leb h) (mod-eq_of_lt {n = n} {m = m} l) ∙ e

wraps : (h m n r : ℕ) {b : Bool} → n ≡ r + m → r < m → leb h r ≡ b → leb h (n % m) ≡ b
wraps h m n r e l f = ap (λ (i : ℕ). leb h (i % m)) e ∙ ap (leb h) (add-mod_right r m ∙ mod-eq_of_lt {n = r} {m = m} l) ∙ f

module _ (h x y c : ℕ) (hx : x < h + h) (hy : y < h + h) (hc : c ≤ 1) where
  abbrev away : ℕ → ℕ
  away z = cond (leb h z) (h + h) 0

  none : {z : ℕ} → z < h → away z ≡ 0
  none p = simp (lt-leb h _ p)

  some : {z : ℕ} → h ≤ z → away z ≡ h + h
  some p = simp (le-leb h _ p)

  -- ---- of a sum
  abbrev SumTurned : Type 0
  SumTurned =
      turned (leb h x) (leb h y) (leb h ((x + y + c) % (h + h)))
      ≡ not (leb (away x + away y) (x + y + c + h) && ltb (x + y + c) (away x + away y + h))

  sum_low_low : x < h → y < h → Dec (h ≤ x + y + c) → SumTurned
  sum_low_low p q (yes l) =
      let ax = none p in
      let ay = none q in
      found (lt-leb h x p) (lt-leb h y q) (stays h (h + h) (x + y + c) (omega arith) (le-leb _ _ l))
      (le-leb (away x + away y) (x + y + c + h) (omega arith))
      (le-ltb (x + y + c) (away x + away y + h) (omega arith)) refl
  sum_low_low p q (no f) =
      let l = lt_of_not-le f in
      let ax = none p in
      let ay = none q in
      found (lt-leb h x p) (lt-leb h y q) (stays h (h + h) (x + y + c) (omega arith) (lt-leb _ _ l))
      (le-leb (away x + away y) (x + y + c + h) (omega arith))
      (lt-ltb (x + y + c) (away x + away y + h) (omega arith)) refl

  sum_low_high : x < h → h ≤ y → SumTurned
  sum_low_high p q =
      let ax = none p in
      let ay = some q in
      found (lt-leb h x p) (le-leb h y q) refl
      (le-leb (away x + away y) (x + y + c + h) (omega arith))
      (lt-ltb (x + y + c) (away x + away y + h) (omega arith)) refl

  sum_high_low : h ≤ x → y < h → SumTurned
  sum_high_low p q =
      let ax = some p in
      let ay = none q in
      found (le-leb h x p) (lt-leb h y q) refl
      (le-leb (away x + away y) (x + y + c + h) (omega arith))
      (lt-ltb (x + y + c) (away x + away y + h) (omega arith)) refl

  sum_high_high : h ≤ x → h ≤ y → Dec (h ≤ x - h + (y - h) + c) → SumTurned
  sum_high_high p q (yes l) =
      let ax = some p in
      let ay = some q in
      found (le-leb h x p) (le-leb h y q) (wraps h (h + h) (x + y + c) (x - h + (y - h) + c) (omega arith) (omega arith) (le-leb _ _ l))
      (le-leb (away x + away y) (x + y + c + h) (omega arith))
      (lt-ltb (x + y + c) (away x + away y + h) (omega arith)) refl
  sum_high_high p q (no f) =
      let l = lt_of_not-le f in
      let ax = some p in
      let ay = some q in
      found (le-leb h x p) (le-leb h y q) (wraps h (h + h) (x + y + c) (x - h + (y - h) + c) (omega arith) (omega arith) (lt-leb _ _ l))
      (lt-leb (away x + away y) (x + y + c + h) (omega arith)) refl refl

  sum_turned : Dec (h ≤ x) → Dec (h ≤ y) → SumTurned
  sum_turned (yes p) (yes q) = sum_high_high p q (dec_le h (x - h + (y - h) + c))
  sum_turned (yes p) (no q) = sum_high_low p (lt_of_not-le q)
  sum_turned (no p) (yes q) = sum_low_high (lt_of_not-le p) q
  sum_turned (no p) (no q) = sum_low_low (lt_of_not-le p) (lt_of_not-le q) (dec_le h (x + y + c))

  -- ---- of a difference
  abbrev DifferenceTurned : Type 0
  DifferenceTurned =
      turned (leb h x) (not (leb h y)) (leb h ((h + h + x - (y + c)) % (h + h)))
      ≡ not (leb (y + c + away x) (x + away y + h) && ltb (x + away y) (y + c + away x + h))

  less_low_low : x < h → y < h → DifferenceTurned
  less_low_low p q =
      let ax = none p in
      let ay = none q in
      found (lt-leb h x p) (ap not (lt-leb h y q)) refl
      (le-leb (y + c + away x) (x + away y + h) (omega arith))
      (lt-ltb (x + away y) (y + c + away x + h) (omega arith)) refl

  less_high_high : h ≤ x → h ≤ y → DifferenceTurned
  less_high_high p q =
      let ax = some p in
      let ay = some q in
      found (le-leb h x p) (ap not (le-leb h y q)) refl
      (le-leb (y + c + away x) (x + away y + h) (omega arith))
      (lt-ltb (x + away y) (y + c + away x + h) (omega arith)) refl

  less_low_high : x < h → h ≤ y → Dec (h ≤ h + h + x - (y + c)) → DifferenceTurned
  less_low_high p q (yes l) =
      let ax = none p in
      let ay = some q in
      found (lt-leb h x p) (ap not (le-leb h y q)) (stays h (h + h) (h + h + x - (y + c)) (omega arith) (le-leb _ _ l))
      (le-leb (y + c + away x) (x + away y + h) (omega arith))
      (le-ltb (x + away y) (y + c + away x + h) (omega arith)) refl
  less_low_high p q (no f) =
      let l = lt_of_not-le f in
      let ax = none p in
      let ay = some q in
      found (lt-leb h x p) (ap not (le-leb h y q)) (stays h (h + h) (h + h + x - (y + c)) (omega arith) (lt-leb _ _ l))
      (le-leb (y + c + away x) (x + away y + h) (omega arith))
      (lt-ltb (x + away y) (y + c + away x + h) (omega arith)) refl

  less_high_low : h ≤ x → y < h → Dec (h ≤ x - (y + c)) → DifferenceTurned
  less_high_low p q (yes l) =
      let ax = some p in
      let ay = none q in
      found (le-leb h x p) (ap not (lt-leb h y q)) (wraps h (h + h) (h + h + x - (y + c)) (x - (y + c)) (omega arith) (omega arith) (le-leb _ _ l))
      (le-leb (y + c + away x) (x + away y + h) (omega arith))
      (lt-ltb (x + away y) (y + c + away x + h) (omega arith)) refl
  less_high_low p q (no f) =
      let l = lt_of_not-le f in
      let ax = some p in
      let ay = none q in
      found (le-leb h x p) (ap not (lt-leb h y q)) (wraps h (h + h) (h + h + x - (y + c)) (x - (y + c)) (omega arith) (omega arith) (lt-leb _ _ l))
      (lt-leb (y + c + away x) (x + away y + h) (omega arith)) refl refl

  difference_turned : Dec (h ≤ x) → Dec (h ≤ y) → DifferenceTurned
  difference_turned (yes p) (yes q) = less_high_high p q
  difference_turned (yes p) (no q) = less_high_low p (lt_of_not-le q) (dec_le h (x - (y + c)))
  difference_turned (no p) (yes q) = less_low_high (lt_of_not-le p) q (dec_le h (h + h + x - (y + c)))
  difference_turned (no p) (no q) = less_low_low (lt_of_not-le p) (lt_of_not-le q)

-- the same with the modulus m under its own name
pub sum_turned_at :
    (m h x y c : ℕ) → m ≡ h + h → x < m → y < m → c ≤ 1 →
    turned (leb h x) (leb h y) (leb h ((x + y + c) % m))
    ≡ not (leb (cond (leb h x) m 0 + cond (leb h y) m 0) (x + y + c + h) && ltb (x + y + c) (cond (leb h x) m 0 + cond (leb h y) m 0 + h))
sum_turned_at m h x y c e hx hy hc = rw e (sum_turned h x y c (omega arith) (omega arith) hc (dec_le h x) (dec_le h y))

pub difference_turned_at :
    (m h x y c : ℕ) → m ≡ h + h → x < m → y < m → c ≤ 1 →
    turned (leb h x) (not (leb h y)) (leb h ((m + x - (y + c)) % m))
    ≡ not (leb (y + c + cond (leb h x) m 0) (x + cond (leb h y) m 0 + h) && ltb (x + cond (leb h y) m 0) (y + c + cond (leb h x) m 0 + h))
difference_turned_at m h x y c e hx hy hc = rw e (difference_turned h x y c (omega arith) (omega arith) hc (dec_le h x) (dec_le h y))
