-- What is put where the operand is in the registers, from what its function is told by those that it calls.
use Prim.Native.Nat.{ℕ, ◌/◌}
use mathlib.Core.Path.{◌≡◌, ap, sym, subst, ◌∙◌}
use mathlib.Core.List.{List}
use mathlib.Core.Bool.{true}
use Rattle.little.specs.declared.Size.{Size}
use Rattle.little.specs.Width.{bits_of, twice_of}
use Rattle.flags.specs.declared.Computed.{Computed}
use Rattle.flags.specs.Flag.{packed_of, flags_of}
use Rattle.alu.specs.declared.Arith.{Arith}
use Rattle.alu.specs.declared.change.Change.{Change}
use Rattle.alu.specs.Operation.{operated}
use Rattle.alu.specs.Change.{changed}
use Rattle.feed.specs.declared.scale.Scale.{Scale}
use Rattle.feed.specs.declared.cycle.Cycle.{Cycle}
use Rattle.feed.specs.Scale.{scaled}
use Rattle.feed.specs.Cycle.{cycled}
use Rattle.state.specs.declared.Bank.{Bank}
use Rattle.state.specs.declared.State.{State}
use Rattle.state.specs.declared.named.Field.{Field}
use Rattle.state.specs.State.{with_flags, with_both_flags}
use Rattle.state.specs.Register.{register_at}
use Rattle.state.specs.inner.Lent.{banked_with}
use Rattle.state.specs.inner.Field.{field_in, wide_at, PutWithin}
use Rattle.code.specs.declared.Operand.{Operand}
use Rattle.code.specs.declared.Operand.TheVariants.{Register}
use Rattle.code.specs.declared.Side.TheVariants.{First, With}
use Rattle.code.specs.declared.Use.TheVariants.{Number, From, Load, Compute, Changed, Scaled, Cycled}
use Rattle.operand.specs.Flag.{flagged}
use Rattle.operand.specs.Operand.{wide_of}
use Rattle.operand.specs.Try.{did, leaves, after}
use Rattle.operand.specs.inner.Placed.{field_of, BeginsAt}
use Rattle.operand.specs.inner.Does.{Does}
use Rattle.operand.proofs.Placed.{value_at_lem, put_at_lem, register_at_lem, register_held, register_put, wide_at_lem}
use Rattle.compute.specs.Compute.{result_in, answer_in, stores_of, scaled_at, puts_of}
use Rattle.std.proofs.Common.{Ok}

module _ (z : Size) (o : Operand) (f : Field) (bank : Bank) (there : BeginsAt bank z o f) (rest : State) (regs : List ℕ) (flags : ℕ) (ram rom : List ℕ) where
  -- a result is put there
  result_put : (r : Computed) (w g : ℕ) (next : List ℕ) → w ≡ r.value → g ≡ packed_of r.flags → PutWithin regs next z f w → did (banked_with rest next bank g) ram ≡ result_in (banked_with rest regs bank flags) ram rom z o r
  unfolding flagged with_flags with_both_flags
  result_put r w g next e h p = rw h (sym (put_at_lem (flagged (banked_with rest regs bank flags) r.flags) ram rom z o f r.value next there (rw (← e) p)))

  -- and that of an operation, but for CP
  answer_put : (op : Arith) (r : Computed) (w g : ℕ) (next : List ℕ) → stores_of op ≡ true → w ≡ r.value → g ≡ packed_of r.flags → PutWithin regs next z f w → did (banked_with rest next bank g) ram ≡ answer_in op (banked_with rest regs bank flags) ram rom z o r
  answer_put op r w g next b e h p = rw b (result_put r w g next e h p)

  -- ---- a change, and an operation with a number
  module _ (v w g : ℕ) (next : List ℕ) (held : v ≡ field_in regs z f) (put : PutWithin regs next z f w) where
    pub changed_there :
        (how : Change) → w ≡ (changed how (bits_of z) v (flags_of flags)).value → g ≡ packed_of (changed how (bits_of z) v (flags_of flags)).flags →
        Does (λ t m. puts_of (Changed how) z o t m rom) (banked_with rest regs bank flags) ram (Ok tt) (banked_with rest next bank g) ram
    unfolding puts_of
    changed_there how e h =
        rw (value_at_lem regs bank ram rom z o f there, ← held)
        (ap (leaves (banked_with rest regs bank flags) ram) (result_put (changed how (bits_of z) v (flags_of flags)) w g next e h put))

    pub with_there :
        (op : Arith) (n : ℕ) → stores_of op ≡ true → w ≡ (operated op (bits_of z) v n (flags_of flags).c).value → g ≡ packed_of (operated op (bits_of z) v n (flags_of flags).c).flags →
        Does (λ t m. puts_of (Compute op (With n)) z o t m rom) (banked_with rest regs bank flags) ram (Ok tt) (banked_with rest next bank g) ram
    unfolding puts_of
    with_there op n b e h =
        rw (value_at_lem regs bank ram rom z o f there, ← held)
        (ap (leaves (banked_with rest regs bank flags) ram) (answer_put op (operated op (bits_of z) v n (flags_of flags).c) w g next b e h put))

  -- ---- a number, and a register, put there
  pub number_there : (v : ℕ) (next : List ℕ) → PutWithin regs next z f v → Does (λ t m. puts_of (Number v) z o t m rom) (banked_with rest regs bank flags) ram (Ok tt) (banked_with rest next bank flags) ram
  unfolding puts_of
  number_there v next put = sym (ap (leaves (banked_with rest regs bank flags) ram) (put_at_lem (banked_with rest regs bank flags) ram rom z o f v next there put))

  pub from_there :
      (r : ℕ) (from : Field) (next : List ℕ) → from ≡ field_of bank z (Register r) → PutWithin regs next z f (field_in regs z from) →
      Does (λ t m. puts_of (From r) z o t m rom) (banked_with rest regs bank flags) ram (Ok tt) (banked_with rest next bank flags) ram
  unfolding puts_of
  from_there r from next e put = rw (register_held regs bank z r, ← e) (number_there (field_in regs z from) next put)

  -- and what it holds, put into a register
  pub load_there :
      (r : ℕ) (to : Field) (next : List ℕ) → to ≡ field_of bank z (Register r) → PutWithin regs next z to (field_in regs z f) →
      Does (λ t m. puts_of (Load r) z o t m rom) (banked_with rest regs bank flags) ram (Ok tt) (banked_with rest next bank flags) ram
  unfolding puts_of
  load_there r to next e put =
      rw (value_at_lem regs bank ram rom z o f there)
      (sym (ap (λ (t : State). after (Ok tt) t ram) (register_put (banked_with rest regs bank flags) z r (field_in regs z f) next (subst (λ (x : Field). PutWithin regs next z x (field_in regs z f)) e put))))

-- ---- an operation with a register, which gets the result
module _ (z : Size) (o : Operand) (f to : Field) (bank : Bank) (there : BeginsAt bank z o f) (n : ℕ) (first : to ≡ field_of bank z (Register n)) (rest : State) (regs : List ℕ) (flags : ℕ) (ram rom : List ℕ) where
  into : BeginsAt bank z (Register n) to
  into = subst (BeginsAt bank z (Register n)) (sym first) (register_at_lem bank z n)

  held_first : (x : ℕ) → x ≡ field_in regs z to → register_at regs bank z n ≡ x
  held_first x e = register_held regs bank z n ∙ ap (field_in regs z) (sym first) ∙ sym e

  pub operated_there :
      (op : Arith) (v x w g : ℕ) (next : List ℕ) → v ≡ field_in regs z f → x ≡ field_in regs z to → stores_of op ≡ true →
      w ≡ (operated op (bits_of z) x v (flags_of flags).c).value → g ≡ packed_of (operated op (bits_of z) x v (flags_of flags).c).flags → PutWithin regs next z to w →
      Does (λ t m. puts_of (Compute op (First n)) z o t m rom) (banked_with rest regs bank flags) ram (Ok tt) (banked_with rest next bank g) ram
  unfolding puts_of
  operated_there op v x w g next held other b e h put =
      rw (value_at_lem regs bank ram rom z o f there, ← held, held_first x other)
      (ap (leaves (banked_with rest regs bank flags) ram) (answer_put z (Register n) to bank into rest regs flags ram rom op (operated op (bits_of z) x v (flags_of flags).c) w g next b e h put))

-- ---- what is twice as wide as a size, by a number
module _ (z : Size) (w : Operand) (f : Field) (bank : Bank) (there : BeginsAt bank (twice_of z) w f) (rest : State) (regs : List ℕ) (flags : ℕ) (ram rom : List ℕ) where
  scaled_there :
      (how : Scale) (v x y g : ℕ) (next : List ℕ) → x ≡ field_in regs (twice_of z) f →
      y ≡ (scaled how (bits_of (twice_of z) / 2) x v (flags_of flags)).value → g ≡ packed_of (scaled how (bits_of (twice_of z) / 2) x v (flags_of flags)).flags →
      PutWithin regs next (twice_of z) f y →
      Does (λ t m. scaled_at how z w v t m rom) (banked_with rest regs bank flags) ram (Ok tt) (banked_with rest next bank g) ram
  unfolding scaled_at
  scaled_there how v x y g next held e h put =
      rw (value_at_lem regs bank ram rom (twice_of z) w f there, ← held)
      (ap (leaves (banked_with rest regs bank flags) ram) (result_put (twice_of z) w f bank there rest regs flags ram rom (scaled how (bits_of (twice_of z) / 2) x v (flags_of flags)) y g next e h put))

  -- the same where the size is known by another name
  pub scaled_wider :
      (wider : Size) → wider ≡ twice_of z → (how : Scale) (v x y g : ℕ) (next : List ℕ) → x ≡ field_in regs wider f →
      y ≡ (scaled how (bits_of wider / 2) x v (flags_of flags)).value → g ≡ packed_of (scaled how (bits_of wider / 2) x v (flags_of flags)).flags →
      PutWithin regs next wider f y →
      Does (λ t m. scaled_at how z w v t m rom) (banked_with rest regs bank flags) ram (Ok tt) (banked_with rest next bank g) ram
  scaled_wider wider q how v x y g next held e h put = scaled_there how v x y g next (rw q at held) (rw q at e) (rw q at h) (rw q at put)

-- where a register's wider one begins
pub wider_at : (bank : Bank) (z : Size) (n : ℕ) (by to : Field) → by ≡ field_of bank z (Register n) → to ≡ wide_at z by → BeginsAt bank (twice_of z) (wide_of z (Register n)) to
wider_at bank z n by to e h =
    subst (BeginsAt bank (twice_of z) (wide_of z (Register n))) (sym h)
    (wide_at_lem bank z (Register n) by (subst (BeginsAt bank z (Register n)) (sym e) (register_at_lem bank z n)))

module _ (z : Size) (o : Operand) (f : Field) (bank : Bank) (there : BeginsAt bank z o f) (rest : State) (regs : List ℕ) (flags : ℕ) (ram rom : List ℕ) where
  -- by the operand, where it is known by the number that it holds
  pub scaled_by :
      (how : Scale) (n v g : ℕ) (next : List ℕ) → v ≡ field_in regs z f →
      Does (λ t m. scaled_at how z (wide_of z (Register n)) v t m rom) (banked_with rest regs bank flags) ram (Ok tt) (banked_with rest next bank g) ram →
      Does (λ t m. puts_of (Scaled how n) z o t m rom) (banked_with rest regs bank flags) ram (Ok tt) (banked_with rest next bank g) ram
  unfolding puts_of
  scaled_by how n v g next held d = rw (value_at_lem regs bank ram rom z o f there, ← held) d

  pub cycled_there :
      (how : Cycle) (v w : ℕ) (next : List ℕ) → v ≡ field_in regs z f → w ≡ cycled how (bits_of z) v → PutWithin regs next z f w →
      Does (λ t m. puts_of (Cycled how) z o t m rom) (banked_with rest regs bank flags) ram (Ok tt) (banked_with rest next bank flags) ram
  unfolding puts_of
  cycled_there how v w next held e put =
      rw (value_at_lem regs bank ram rom z o f there, ← held, ← e)
      (sym (ap (leaves (banked_with rest regs bank flags) ram) (put_at_lem (banked_with rest regs bank flags) ram rom z o f w next there put)))
