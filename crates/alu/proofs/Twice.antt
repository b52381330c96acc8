-- One change and then another of what it left (specs/Twice.antt), proved.
use mathlib.Core.Path.{◌≡◌, refl, sym, ap, ◌∙◌}
use mathlib.Core.Bool.{Bool, true, false, cond}
use mathlib.Core.Logic.{◌≢◌}
use Prim.Native.Nat.{ℕ, ◌+◌, ◌-◌, ◌%◌, ◌^◌, ◌<◌, ◌≤◌}
use native.Mathlib.Nat.{mod-lt, mod-mod, mod_self, mod-eq_of_lt, add-mod, mod-add-mod, add-mod-mod, add-mod_right, add-zero, add_assoc}
use native.Mathlib.Omega.{arith}
use lib.Dec.{eqb, ltb}
use lib.Pow.{pow_pos}
use borrow.Author.Tests.{ne_eqb, ltb-true, ltb-false}
use Rattle.flags.specs.declared.Computed.{Computed}
use Rattle.flags.specs.declared.Flags.{Flags}
use Rattle.flags.specs.Width.{negative}
use Rattle.flags.specs.Flag.{keeping, keeping_c}
use Rattle.flags.specs.Sums.{result_of, sum_of, difference_of}
use Rattle.alu.specs.Count.{steps_of, counted_of, inc_of, dec_of}
use Rattle.alu.specs.Shift.{places_of}
use Rattle.alu.specs.Twice.{ShiftsJoin, CountsJoin, CountsUndone, ButHAndV, ByteCountsJoin, ByteCountsDiffer}
use Rattle.alu.proofs.Shifts.{shift_merge}

-- ---- numbers from their codes
-- 1 to m, where a code has m as 0
code_back : (m n : ℕ) → 1 ≤ n → n ≤ m → cond (eqb (n % m % m) 0) m (n % m % m) ≡ n
code_back m n p q = ap (λ (x : ℕ). cond (eqb x 0) m x) (mod-mod n m) ∙ go (ltb n m) refl
  where
    go : (b : Bool) → ltb n m ≡ b → cond (eqb (n % m) 0) m (n % m) ≡ n
    go true e = let f = mod-eq_of_lt (ltb-true n m e) in rw (f, ne_eqb n 0 (λ h. omega arith)) refl
    go false e = let f : m ≡ n = omega (arith, ltb-false n m e) in rw (f, mod_self n) refl

places_back : (n : ℕ) → 1 ≤ n → n ≤ 16 → places_of (n % 16) ≡ n
unfolding places_of
places_back n p q = code_back 16 n p q

steps_back : (n : ℕ) → 1 ≤ n → n ≤ 8 → steps_of (n % 8) ≡ n
steps_back n p q = code_back 8 n p q

-- ---- shifts
pub shifts_join : ShiftsJoin
shifts_join w k x a b old p (f, g, h) =
    rw (places_back a f (omega arith), places_back b g (omega arith), places_back (a + b) (omega arith) (omega arith))
    (shift_merge w k x a b p (omega arith))

-- ---- counts
-- x plus n, and x less n, modulo m, as a sum and a difference have them
module _ (m : ℕ) (p : 0 < m) where
  abbrev up : ℕ → ℕ → ℕ
  up x n = (x % m + n % m + 0) % m

  abbrev down : ℕ → ℕ → ℕ
  down x n = (m + x % m - (n % m + 0)) % m

  -- what takes n off, going round
  abbrev rest : ℕ → ℕ
  rest n = m - n % m

  up_is : (x n : ℕ) → up x n ≡ (x + n) % m
  up_is x n = ap (λ (y : ℕ). y % m) (add-zero (x % m + n % m)) ∙ sym (add-mod x n m)

  down_is : (x n : ℕ) → down x n ≡ (x + rest n) % m
  down_is x n =
      let l = mod-lt n p in
      let e : m + x % m - (n % m + 0) ≡ x % m + rest n = omega arith in
      ap (λ (y : ℕ). y % m) e ∙ mod-add-mod x m (rest n)

  -- n on and n off
  round : (x n : ℕ) → (x + n + rest n) % m ≡ x % m
  round x n =
      let l = mod-lt n p in
      let e : x + n % m + rest n ≡ x + m = omega arith in
      sym (mod-add-mod (x + n) m (rest n))
      ∙ ap (λ (y : ℕ). (y + rest n) % m) (sym (add-mod-mod x n m))
      ∙ mod-add-mod (x + n % m) m (rest n)
      ∙ ap (λ (y : ℕ). y % m) e
      ∙ add-mod_right x m

  up_up : (x a b : ℕ) → up (up x a) b ≡ up x (a + b)
  up_up x a b =
      up_is (up x a) b ∙ ap (λ (y : ℕ). (y + b) % m) (up_is x a) ∙ mod-add-mod (x + a) m b ∙ ap (λ (y : ℕ). y % m) (add_assoc x a b) ∙ sym (up_is x (a + b))

  down_up : (x n : ℕ) → down (up x n) n ≡ x % m
  down_up x n = down_is (up x n) n ∙ ap (λ (y : ℕ). (y + rest n) % m) (up_is x n) ∙ mod-add-mod (x + n) m (rest n) ∙ round x n

  up_down : (x n : ℕ) → up (down x n) n ≡ x % m
  up_down x n =
      let e : x + rest n + n ≡ x + n + rest n = omega arith in
      up_is (down x n) n ∙ ap (λ (y : ℕ). (y + n) % m) (down_is x n) ∙ mod-add-mod (x + rest n) m n ∙ ap (λ (y : ℕ). y % m) e ∙ round x n

  -- x less n is what n brings to x again
  less_is : (x n y : ℕ) → y < m → (y + n) % m ≡ x % m → down x n ≡ y
  less_is x n y h e =
      down_is x n
      ∙ sym (mod-add-mod x m (rest n))
      ∙ ap (λ (z : ℕ). (z + rest n) % m) (sym e)
      ∙ mod-add-mod (y + n) m (rest n)
      ∙ round y n
      ∙ mod-eq_of_lt h

  down_down : (x a b : ℕ) → down (down x a) b ≡ down x (a + b)
  down_down x a b =
      let y = down (down x a) b in
      let e : y + (a + b) ≡ y + b + a = omega arith in
      sym (less_is x (a + b) y (mod-lt _ p)
      (ap (λ (z : ℕ). z % m) e
      ∙ sym (mod-add-mod (y + b) m a)
      ∙ ap (λ (z : ℕ). (z + a) % m) (sym (up_is y b) ∙ up_down (down x a) b ∙ mod-eq_of_lt (mod-lt _ p))
      ∙ sym (up_is (down x a) a)
      ∙ up_down x a))

-- a word or a long keeps all flags
counted_wide : (old : Flags) (k : ℕ) (r : Computed) → k ≢ 8 → counted_of old k r ≡ keeping old r.value
counted_wide old k r h = ap (λ (b : Bool). keeping·if old k r b) (ne_eqb k 8 h)
  where
    keeping·if : Flags → ℕ → Computed → Bool → Computed
    keeping·if old k r b = record { value = r.value; flags = cond b (keeping_c old r.flags) old }

module _ (k x : ℕ) (old : Flags) (h : k ≢ 8) where
  inc_is : (n : ℕ) → inc_of old k x n ≡ keeping old (up (2 ^ k) (pow_pos k) x n)
  unfolding inc_of sum_of result_of
  inc_is n = counted_wide old k (sum_of k x n false) h

  dec_is : (n : ℕ) → dec_of old k x n ≡ keeping old (down (2 ^ k) (pow_pos k) x n)
  unfolding dec_of difference_of result_of
  dec_is n = counted_wide old k (difference_of k x n false) h

pub counts_join : CountsJoin
counts_join k x a b old h (f, g, l) =
    let p = pow_pos k in
    rw (steps_back a f (omega arith), steps_back b g (omega arith), steps_back (a + b) (omega arith) (omega arith)) (
      rw (inc_is k x old h a) (inc_is k (up (2 ^ k) p x a) old h b ∙ ap (keeping old) (up_up (2 ^ k) p x a b) ∙ sym (inc_is k x old h (a + b))),
      rw (dec_is k x old h a) (dec_is k (down (2 ^ k) p x a) old h b ∙ ap (keeping old) (down_down (2 ^ k) p x a b) ∙ sym (dec_is k x old h (a + b))),
    )

pub counts_undone : CountsUndone
counts_undone k x n old h =
    let p = pow_pos k in
    let m = steps_of n in (
      rw (inc_is k x old h m) (dec_is k (up (2 ^ k) p x m) old h m ∙ ap (keeping old) (down_up (2 ^ k) p x m)),
      rw (dec_is k x old h m) (inc_is k (down (2 ^ k) p x m) old h m ∙ ap (keeping old) (up_down (2 ^ k) p x m)),
    )

-- ---- bytes
bytes_joined :
    (x a b : ℕ) (old : Flags) →
    ButHAndV (inc_of (inc_of old 8 x a).flags 8 (inc_of old 8 x a).value b) (inc_of old 8 x (a + b))
    × ButHAndV (dec_of (dec_of old 8 x a).flags 8 (dec_of old 8 x a).value b) (dec_of old 8 x (a + b))
unfolding inc_of dec_of sum_of difference_of result_of
bytes_joined x a b old =
    let e = up_up (2 ^ 8) (pow_pos 8) x a b in
    let d = down_down (2 ^ 8) (pow_pos 8) x a b in (
      record { value = e; s = ap (negative 8) e; z = ap (λ (r : ℕ). eqb r 0) e; n = refl; c = refl; marks = refl },
      record { value = d; s = ap (negative 8) d; z = ap (λ (r : ℕ). eqb r 0) d; n = refl; c = refl; marks = refl },
    )

pub byte_counts_join : ByteCountsJoin
byte_counts_join x a b old (f, g, l) =
    rw (steps_back a f (omega arith), steps_back b g (omega arith), steps_back (a + b) (omega arith) (omega arith)) (bytes_joined x a b old)

pub byte_counts_differ : (old : Flags) → ByteCountsDiffer old
unfolding inc_of dec_of sum_of difference_of result_of
byte_counts_differ old = record { h = (refl, refl); v = (refl, refl); h_down = (refl, refl); v_down = (refl, refl) }
