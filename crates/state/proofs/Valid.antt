-- What validity says, and what keeps it.
use Prim.Native.Nat.{ℕ, ◌%◌, ◌^◌, ◌<◌}
use mathlib.Core.Path.{◌≡◌, refl}
use mathlib.Core.List.{List}
use mathlib.Core.Bool.{Bool, true, false, ◌&&◌, ◌||◌}
use native.Mathlib.Omega.{arith}
use lib.Dec.{ltb}
use borrow.Author.Tests.{lt-ltb, ltb-true}
use Rattle.state.specs.Named.{Bits, bits, nowhere, with_held}
use Rattle.state.specs.State.{clear, flags_valid, valid_of, zero_state, reset_state, lent, nested, with_counter, with_bank, with_level, with_nesting, with_flags, with_both_flags, with_long}
use Rattle.state.specs.declared.State.{State}

pub record Valid (s : State) : Type 0 where
  pub counter : s.counter < 2 ^ 24
  pub bank : s.bank.0 < 4
  pub level : s.level.0 < 8
  pub flags : flags_valid s.flags ≡ true
  pub spare : flags_valid s.spare ≡ true

pub and_true : (a b : Bool) → a && b ≡ true → (a ≡ true) × (b ≡ true)
and_true true b e = (refl, e)
and_true false b e = let z : ◌≡◌ {A = ℕ} 0 1 = cc in absurd (omega arith)

-- valid flags have their marks in bits 8 and 9, and a marked flag is 0
pub flags_say : (f : ℕ) → flags_valid f ≡ true → (f < 2 ^ 10) × ((clear 8 f || clear 4 f) ≡ true) × ((clear 9 f || clear 2 f) ≡ true)
flags_say f e =
    let a = and_true (clear 5 f) _ e in
    let b = and_true (clear 3 f) _ a.1 in
    let c = and_true (ltb f (2 ^ 10)) _ b.1 in
    let d = and_true (clear 8 f || clear 4 f) _ c.1 in
    (ltb-true _ _ c.0, d.0, d.1)

pub valid_says : (s : State) → valid_of s ≡ true → Valid s
unfolding valid_of
valid_says s e =
    let a = and_true (ltb s.counter (2 ^ 24)) _ e in
    let b = and_true (ltb s.bank.0 4) _ a.1 in
    let l = and_true (ltb s.level.0 8) _ b.1 in
    let f = and_true (flags_valid s.flags) (flags_valid s.spare) l.1 in
    record {
      counter = ltb-true _ _ a.0;
      bank = ltb-true _ _ b.0;
      level = ltb-true _ _ l.0;
      flags = f.0;
      spare = f.1;
    }

pub valid_from : (s : State) → Valid s → valid_of s ≡ true
unfolding valid_of
valid_from s v = simp (lt-ltb _ _ v.counter, lt-ltb _ _ v.bank, lt-ltb _ _ v.level, v.flags, v.spare)

-- ---- what keeps it: registers have no part in it, and the others are written within their bounds
pub valid_held : (s : State) (t : Bits) (v : ℕ) → valid_of (with_held s t v) ≡ valid_of s
unfolding with_held with_long valid_of
valid_held s (bits i o k) v = refl
valid_held s nowhere v = refl

-- a valid state with parts laid over it that are within their bounds
valid_lent :
    (s : State) (registers : List ℕ) (counter bank flags spare : ℕ) → Valid s → counter < 2 ^ 24 → bank < 4 → flags_valid flags ≡ true
    → flags_valid spare ≡ true → Valid (lent s registers counter bank flags spare)
valid_lent s registers counter bank flags spare v c b f g = record { counter = c; bank = b; level = v.level; flags = f; spare = g }

pub valid_counter : (s : State) (c : ℕ) → Valid s → Valid (with_counter s c)
unfolding with_counter
valid_counter s c v = valid_lent s _ _ _ _ _ v (omega arith) v.bank v.flags v.spare

pub valid_bank : (s : State) (b : ℕ) → Valid s → Valid (with_bank s b)
unfolding with_bank
valid_bank s b v = valid_lent s _ _ _ _ _ v v.counter (omega arith) v.flags v.spare

pub valid_nested : (s : State) (level nesting : ℕ) → Valid s → level < 8 → Valid (nested s level nesting)
valid_nested s level nesting v l = record { counter = v.counter; bank = v.bank; level = l; flags = v.flags; spare = v.spare }

pub valid_level : (s : State) (l : ℕ) → Valid s → Valid (with_level s l)
unfolding with_level
valid_level s l v = valid_nested s (l % 8) s.nesting v (omega arith)

pub valid_nesting : (s : State) (n : ℕ) → Valid s → Valid (with_nesting s n)
unfolding with_nesting
valid_nesting s n v = valid_nested s s.level.0 (n % 2 ^ 16) v v.level

pub valid_both : (s : State) (f g : ℕ) → flags_valid f ≡ true → flags_valid g ≡ true → Valid s → Valid (with_both_flags s f g)
unfolding with_both_flags
valid_both s f g e h v = valid_lent s _ _ _ _ _ v v.counter v.bank e h

pub valid_flags : (s : State) (f : ℕ) → flags_valid f ≡ true → Valid s → Valid (with_flags s f)
unfolding with_flags
valid_flags s f e v = valid_both s f s.spare e v.spare v

-- the all-zero state and the state after reset are valid
pub valid_zero : Valid zero_state
unfolding zero_state
valid_zero = record { counter = omega arith; bank = omega arith; level = omega arith; flags = refl; spare = refl }

pub valid_reset : (vector : ℕ) → Valid (reset_state vector)
unfolding reset_state
valid_reset vector =
    record { counter = omega arith; bank = omega arith; level = omega arith; flags = refl; spare = refl }
