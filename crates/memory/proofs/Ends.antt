-- The missing byte, found over the bytes one by one, is the one past the end of the memory that holds the first byte.
use Prim.Native.Nat.{ℕ, zero, suc, ◌+◌, ◌≤◌, ◌<◌, ◌^◌, ◌%◌}
use mathlib.Core.Path.{◌≡◌, refl, ap}
use mathlib.Core.Bool.{Bool, true, false, ◌&&◌}
use native.Mathlib.Omega.{arith}
use lib.Dec.{leb, ltb}
use borrow.Author.Tests.{lt-ltb, le-ltb, ltb-true, ltb-false, le-leb, lt-leb, leb-true, leb-false}
use Rattle.memory.specs.Place.{ram_holds, rom_holds, first_without, missing_of}
use Rattle.memory.specs.inner.Ends.{past_end}

-- ---- what a memory holds
pub ram_in : (rl x : ℕ) → x < rl → ram_holds rl x ≡ true
ram_in rl x h = lt-ltb x rl h

pub ram_out : (rl x : ℕ) → rl ≤ x → ram_holds rl x ≡ false
ram_out rl x h = le-ltb x rl h

pub rom_in : (ml x : ℕ) → 2 ^ 24 ≤ x + ml → x < 2 ^ 24 → rom_holds ml x ≡ true
rom_in ml x h i = rw (le-leb (2 ^ 24) (x + ml) h, lt-ltb x (2 ^ 24) i) refl

pub rom_below : (ml x : ℕ) → x + ml < 2 ^ 24 → rom_holds ml x ≡ false
rom_below ml x h = rw (lt-leb (2 ^ 24) (x + ml) h) refl

pub rom_past : (ml x : ℕ) → 2 ^ 24 ≤ x → rom_holds ml x ≡ false
rom_past ml x h = go (leb (2 ^ 24) (x + ml))
  where
    go : (b : Bool) → b && ltb x (2 ^ 24) ≡ false
    go true = le-ltb x (2 ^ 24) h
    go false = refl

-- ---- the first byte that a memory does not hold is its end, where it holds all from x up to there
module _ (holds : ℕ → Bool) (end : ℕ) (out : holds end ≡ false) where
  pub first_end : (n x : ℕ) → ((y : ℕ) → x ≤ y → y < end → holds y ≡ true) → x ≤ end → end < x + n → first_without holds x n ≡ end
  unfolding first_without
  first_end zero x inside h k = absurd (omega arith)
  first_end (suc n) x inside h k =
      go (λ l. first_end n (suc x) (λ y i j. inside y (omega arith) j) l (omega arith)) (ltb x end) refl
    where
      go : (suc x ≤ end → first_without holds (suc x) n ≡ end) → (b : Bool) → ltb x end ≡ b → first_without holds x (suc n) ≡ end
      go next true e = rw (inside x (omega arith) (ltb-true x end e)) (next (ltb-true x end e))
      go next false e = let f : x ≡ end = omega (arith, ltb-false x end e) in rw (f, out) refl

-- ---- where the first byte lies
pub data First (rl ml a : ℕ) : Type 0 where
  in_ram : a < rl → First rl ml a
  in_rom : rl ≤ a → 2 ^ 24 ≤ a + ml → a < 2 ^ 24 → First rl ml a
  in_none : rl ≤ a → rom_holds ml a ≡ false → First rl ml a

pub first : (rl ml a : ℕ) → First rl ml a
first rl ml a = go (ltb a rl) (leb (2 ^ 24) (a + ml)) (ltb a (2 ^ 24)) refl refl refl
  where
    go : (x y z : Bool) → ltb a rl ≡ x → leb (2 ^ 24) (a + ml) ≡ y → ltb a (2 ^ 24) ≡ z → First rl ml a
    go true y z e f g = in_ram (ltb-true a rl e)
    go false true true e f g = in_rom (ltb-false a rl e) (leb-true _ _ f) (ltb-true _ _ g)
    go false true false e f g = in_none (ltb-false a rl e) (rom_past ml a (ltb-false _ _ g))
    go false false z e f g = in_none (ltb-false a rl e) (rom_below ml a (leb-false _ _ f))

-- ---- the end, by where the first byte lies
module _ (rl ml a : ℕ) where
  pub end_ram : a < rl → past_end rl ml a ≡ rl % 2 ^ 24
  unfolding past_end
  end_ram h = rw (ram_in rl a h) refl

  pub end_rom : rl ≤ a → 2 ^ 24 ≤ a + ml → a < 2 ^ 24 → past_end rl ml a ≡ 0
  unfolding past_end
  end_rom h i j = rw (ram_out rl a h, rom_in ml a i j) refl

  pub end_none : rl ≤ a → rom_holds ml a ≡ false → past_end rl ml a ≡ a % 2 ^ 24
  unfolding past_end
  end_none h i = rw (ram_out rl a h, i) refl

-- ---- the two agree wherever n bytes at a are not whole in one memory
module _ (rl ml a n : ℕ) where
  pub missing_past : rl < a + n → (2 ^ 24 ≤ a + ml → 2 ^ 24 < a + n) → missing_of rl ml a n ≡ past_end rl ml a
  unfolding missing_of past_end
  missing_past h i = go (first rl ml a)
    where
      go : First rl ml a → missing_of rl ml a n ≡ past_end rl ml a
      go (in_ram f) =
          rw (ram_in rl a f)
          (ap (λ (x : ℕ). x % 2 ^ 24) (first_end (ram_holds rl) rl (ram_out rl rl (omega arith)) n a (λ y l m. ram_in rl y m) (omega arith) h))
      go (in_rom f g k) =
          rw (ram_out rl a f, rom_in ml a g k)
          (ap (λ (x : ℕ). x % 2 ^ 24)
          (first_end (rom_holds ml) (2 ^ 24) (rom_past ml (2 ^ 24) (omega arith)) n a (λ y l m. rom_in ml y (omega arith) m) (omega arith) (i g)))
      go (in_none f g) = rw (ram_out rl a f, g) refl
