-- What a round leaves of the registers: its pointers moved, BC one less, A and WA and the counter as they were.
use Prim.Native.Nat.{ℕ, ◌+◌, ◌*◌, ◌%◌, ◌^◌, ◌<◌, ◌≤◌}
use mathlib.Core.Path.{◌≡◌, refl, ap, sym, ◌∙◌}
use mathlib.Core.Logic.{◌≢◌}
use mathlib.Core.Bool.{Bool, true, false, cond}
use native.Mathlib.Omega.{arith}
use native.Mathlib.Nat.{mod-eq_of_lt}
use lib.Dec.{ltb}
use borrow.Author.Tests.{ltb-true, ltb-false}
use Rattle.little.specs.declared.Size.{Size}
use Rattle.little.specs.declared.Size.TheVariants.{Byte, Word, Long}
use Rattle.little.specs.Width.{bytes_of}
use Rattle.flags.specs.declared.Flags.{Flags}
use Rattle.state.specs.State.{long_of, with_flags, with_both_flags}
use Rattle.state.specs.Sound.{Sound}
use Rattle.state.specs.Register.{index_of, slot_of, named_in, slot_in, register_at, get_register, set_register}
use Rattle.state.specs.declared.State.{State}
use Rattle.state.proofs.Laws.{Apart, registers, register_same, register_apart, sound_register}
use Rattle.code.specs.declared.Form.{Form}
use Rattle.operand.specs.Round.{less, plus}
use Rattle.operand.specs.Flag.{flagged}
use Rattle.block.specs.Block.{count_in, counted, moved, accumulator}

-- the code of A, of WA and of XWA
abbrev accumulator_code : Size → ℕ
accumulator_code Byte = 1
accumulator_code Word = 0
accumulator_code Long = 0

-- ---- which registers are apart
index_apart : (b r q : ℕ) → b < 4 → r < 8 → q < 8 → r ≢ q → index_of b r ≢ index_of b q
index_apart b r q h i j ne = go (ltb r 4) (ltb q 4) refl refl
  where
    go : (x y : Bool) → ltb r 4 ≡ x → ltb q 4 ≡ y → cond x (4 * b + r) (12 + r) ≢ cond y (4 * b + q) (12 + q)
    go true true e f z = ne (omega arith)
    go true false e f z = omega (arith, ltb-true r 4 e, ltb-false q 4 f)
    go false true e f z = omega (arith, ltb-false r 4 e, ltb-true q 4 f)
    go false false e f z = ne (omega arith)

-- a name that lies in the long register of a code: BC in XBC, A and WA in XWA
unfoldable In : State → Size → ℕ → ℕ → Type 0
In s z c r = (r < 8) × ((named_in s z c).index ≡ index_of (s.bank.0 % 4) r)

in_long : (s : State) (r : ℕ) → r < 8 → In s Long r r
unfolding In slot_of
in_long s r h = (h, ap (index_of (s.bank.0 % 4)) (mod-eq_of_lt h))

in_bc : (s : State) → In s Word 1 1
unfolding In slot_of
in_bc s = (omega arith, refl)

in_acc : (s : State) (z : Size) → In s z (accumulator_code z) 0
unfolding In slot_of
in_acc s Byte = (omega arith, refl)
in_acc s Word = (omega arith, refl)
in_acc s Long = (omega arith, refl)

-- names in two registers are apart
apart : (s : State) (z : Size) (c : ℕ) (y : Size) (d r q : ℕ) → In s z c r → In s y d q → q ≢ r → Apart (named_in s z c) (named_in s y d)
unfolding In
apart s z c y d r q a b ne =
    registers (λ (e : (named_in s y d).index ≡ (named_in s z c).index).
    index_apart (s.bank.0 % 4) q r (omega arith) b.0 a.0 ne (sym b.1 ∙ e ∙ a.1))

other :
    (s : State) (z : Size) (c : ℕ) (y : Size) (d v r q : ℕ) → Sound s → In s z c r → In s y d q → q ≢ r
    → get_register (set_register s z c v) y d ≡ get_register s y d
other s z c y d v r q ok a b ne = register_apart s z c y d v ok (apart s z c y d r q a b ne)

-- A, WA or XWA by its code
acc_is : (s : State) (z : Size) → accumulator s z ≡ get_register s z (accumulator_code z)
acc_is s Byte = refl
acc_is s Word = refl
acc_is s Long = refl

-- ---- a pointer moved
unfoldable pub once : Form → ℕ → ℕ
once f x = cond f.up (plus 32 x (bytes_of f.size)) (less 32 x (bytes_of f.size))

pub once_lt : (f : Form) (x : ℕ) → once f x < 2 ^ 32
unfolding once
once_lt f x = go f.up
  where
    go : (b : Bool) → cond b (plus 32 x (bytes_of f.size)) (less 32 x (bytes_of f.size)) < 2 ^ 32
    go true = omega arith
    go false = omega arith

module _ (f : Form) (r : ℕ) (s : State) (ok : Sound s) (low : 2 ≤ r) (high : r < 8) where
  pub moved_sound : Sound (moved f r s)
  unfolding moved
  moved_sound = sound_register s Long r _ ok

  pub moved_self : get_register (moved f r s) Long r ≡ once f (get_register s Long r)
  unfolding moved once
  moved_self = register_same s Long r _ ok ∙ mod-eq_of_lt (once_lt f (get_register s Long r))

  pub moved_long : (q : ℕ) → q < 8 → q ≢ r → get_register (moved f r s) Long q ≡ get_register s Long q
  unfolding moved
  moved_long q h ne = other s Long r Long q _ r q ok (in_long s r high) (in_long s q h) ne

  pub moved_bc : count_in (moved f r s) ≡ count_in s
  unfolding moved
  moved_bc = other s Long r Word 1 _ r 1 ok (in_long s r high) (in_bc s) (λ (e : 1 ≡ r). omega arith)

  pub moved_acc : (z : Size) → accumulator (moved f r s) z ≡ accumulator s z
  unfolding moved
  moved_acc z =
      acc_is (moved f r s) z
      ∙ other s Long r z (accumulator_code z) _ r 0 ok (in_long s r high) (in_acc s z) (λ (e : 0 ≡ r). omega arith)
      ∙ sym (acc_is s z)

-- ---- BC counted
module _ (s : State) (ok : Sound s) where
  pub counted_sound : Sound (counted s)
  unfolding counted
  counted_sound = sound_register s Word 1 _ ok

  pub counted_bc : count_in (counted s) ≡ less 16 (count_in s) 1
  unfolding counted
  counted_bc = register_same s Word 1 _ ok ∙ omega arith

  pub counted_long : (q : ℕ) → 2 ≤ q → q < 8 → get_register (counted s) Long q ≡ get_register s Long q
  unfolding counted
  counted_long q l h = other s Word 1 Long q _ 1 q ok (in_bc s) (in_long s q h) (λ (e : q ≡ 1). omega arith)

  pub counted_acc : (z : Size) → accumulator (counted s) z ≡ accumulator s z
  unfolding counted
  counted_acc z =
      acc_is (counted s) z
      ∙ other s Word 1 z (accumulator_code z) _ 1 0 ok (in_bc s) (in_acc s z) (λ (e : 0 ≡ 1). omega arith)
      ∙ sym (acc_is s z)

-- ---- flags set: no register changes
module _ (s : State) (g : Flags) where
  pub flagged_register : (z : Size) (c : ℕ) → get_register (flagged s g) z c ≡ get_register s z c
  unfolding flagged with_flags with_both_flags register_at slot_in long_of
  flagged_register z c = refl

  pub flagged_acc : (z : Size) → accumulator (flagged s g) z ≡ accumulator s z
  flagged_acc Byte = flagged_register Byte 1
  flagged_acc Word = flagged_register Word 0
  flagged_acc Long = flagged_register Long 0
