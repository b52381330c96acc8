-- A lower half holds the low bits.
use Prim.Native.Nat.{ℕ, ◌*◌, ◌/◌, ◌%◌, ◌^◌}
use mathlib.Core.Path.{◌≡◌, refl, sym, ap, ◌∙◌}
use mathlib.Core.Bool.{Bool, true, false, cond}
use mathlib.Core.List.{List}
use native.Mathlib.Omega.{arith}
use native.Mathlib.Nat.{mod-mod_of_dvd, dvd-mul_right}
use lib.Dec.{ltb}
use lib.ListN.{get_or}
use borrow.Author.Tests.{eqb-true}
use Rattle.little.specs.declared.Size.{Size}
use Rattle.little.specs.declared.Size.TheVariants.{Byte, Word, Long}
use Rattle.little.specs.Width.{bits_of, twice_of}
use Rattle.state.specs.Register.{get_bits}
use Rattle.state.specs.declared.named.Field.{Field}
use Rattle.state.specs.inner.Field.{field_in, wide_at}
use Rattle.operand.specs.Operand.{wide_of}
use Rattle.operand.specs.inner.Placed.{field_of, low_at}
use Rattle.operand.proofs.Placed.{chosen_at, value_at_lem, wide_at_lem, low_at_lem}
use Rattle.facts.specs.Halves.{LowerHalf}
use Rattle.std.proofs.Common.{Ok}

-- what begins at a multiple of its own bits begins where it is
aligned : (z : Size) (f : Field) → low_at z f ≡ true → f.start / (2 * bits_of z) * (2 * bits_of z) ≡ f.start
aligned Byte f e = let h = eqb-true (f.start % 16) 0 e in omega (arith, h)
aligned Word f e = let h = eqb-true (f.start % 32) 0 e in omega (arith, h)
aligned Long f e = let z : ◌≡◌ {A = ℕ} 0 1 = cc in let y : ⊥ = omega arith in absurd y

-- the low k bits of j times as many values are the bits
cut : (k j x : ℕ) → x % 2 ^ k ≡ x % (2 ^ k * j) % 2 ^ k
cut k j x = sym (mod-mod_of_dvd (2 ^ k) x (dvd-mul_right (2 ^ k) j))

low_bits : (z : Size) (f : Field) (registers : List ℕ) → low_at z f ≡ true → field_in registers z f ≡ field_in registers (twice_of z) (wide_at z f) % 2 ^ bits_of z
unfolding field_in get_bits
low_bits Byte f registers e = rw (aligned Byte f e) (go (ltb f.index 20))
  where
    go : (b : Bool) → cond b (get_or registers f.index 0 / 2 ^ (f.start % 32) % 2 ^ 8) 0 ≡ cond b (get_or registers f.index 0 / 2 ^ (f.start % 32) % 2 ^ 16) 0 % 2 ^ 8
    go true = cut 8 256 (get_or registers f.index 0 / 2 ^ (f.start % 32))
    go false = refl
low_bits Word f registers e = rw (aligned Word f e) (go (ltb f.index 20))
  where
    go : (b : Bool) → cond b (get_or registers f.index 0 / 2 ^ (f.start % 32) % 2 ^ 16) 0 ≡ cond b (get_or registers f.index 0 / 2 ^ (f.start % 32) % 2 ^ 32) 0 % 2 ^ 16
    go true = cut 16 65536 (get_or registers f.index 0 / 2 ^ (f.start % 32))
    go false = refl
low_bits Long f registers e = let z : ◌≡◌ {A = ℕ} 0 1 = cc in let y : ⊥ = omega arith in absurd y

pub lower_half : LowerHalf
lower_half z o s ram rom h e =
    let f = field_of s.bank z o in
    let there = chosen_at s.bank z o h in
    let l : low_at z f ≡ true = sym (low_at_lem s.bank z o f there) ∙ e in (
      field_in s.registers (twice_of z) (wide_at z f),
      value_at_lem s.registers s.bank ram rom (twice_of z) (wide_of z o) (wide_at z f) (wide_at_lem s.bank z o f there),
      value_at_lem s.registers s.bank ram rom z o f there ∙ ap Ok (low_bits z f s.registers l),
    )
