-- SR of a valid state reads back as its parts, and a number with the two ones is the SR of what is read from it.
use Prim.Native.Nat.{ℕ, ◌+◌, ◌*◌, ◌/◌, ◌%◌, ◌^◌, ◌<◌}
use mathlib.Core.Path.{◌≡◌, refl, ap, sym, ◌∙◌}
use mathlib.Core.Bool.{true}
use native.Mathlib.Omega.{arith}
use native.Mathlib.Nat.{div-add-mod'}
use lib.Dec.{eqb}
use lib.Pow.{shr-shr}
use borrow.Author.Tests.{eq-eqb, eqb-true}
use Rattle.state.specs.declared.State.{State}
use Rattle.state.specs.State.{f_of}
use Rattle.state.specs.Sr.{sr_of, f_in, bank_in, level_in, ones_in}
use Rattle.state.proofs.Valid.{Valid, and_true}

-- ---- made, then read
module _ (s : State) (v : Valid s) where
  pub sr_lt : sr_of s < 2 ^ 16
  sr_lt = omega (arith, v.bank, v.level)

  pub sr_back : (bank_in (sr_of s) ≡ s.bank) × (level_in (sr_of s) ≡ s.level) × (f_in (sr_of s) ≡ f_of s.flags)
  sr_back =
      let b : sr_of s / 0x100 ≡ s.bank.0 + 8 * (17 + 2 * s.level.0) = omega arith in
      let l : sr_of s / 0x1000 ≡ s.level.0 + 8 = omega (arith, v.bank) in
      let bank : sr_of s / 0x100 % 8 ≡ s.bank.0 = rw b (omega (arith, v.bank)) in
      let level : sr_of s / 0x1000 % 8 ≡ s.level.0 = rw l (omega (arith, v.level)) in
      (rw bank refl, rw level refl, omega arith)

  pub sr_ones : ones_in (sr_of s) ≡ true
  sr_ones =
      let a1 : sr_of s / 0x800 ≡ 1 + 2 * (s.level.0 + 8) = omega (arith, v.bank) in
      let a : sr_of s / 0x800 % 2 ≡ 1 = rw a1 (omega arith) in
      let b1 : sr_of s / 0x8000 ≡ 1 = omega (arith, v.bank, v.level) in
      let b : sr_of s / 0x8000 % 2 ≡ 1 = rw b1 in
      simp (eq-eqb (sr_of s / 0x800 % 2) 1 a, eq-eqb (sr_of s / 0x8000 % 2) 1 b)

-- ---- read, then made
-- the digits of SR put together, each quotient a number of its own
sr_digits :
    (x a b c d f k m l : ℕ) → a * 0x100 + f ≡ x → b * 8 + k ≡ a → c * 2 + m ≡ b → d * 8 + l ≡ c → d < 2 → m ≡ 1 → d % 2 ≡ 1 →
    f + 0x100 * k + 0x800 + 0x1000 * l + 0x8000 ≡ x
sr_digits x a b c d f k m l e1 e2 e3 e4 h i j = omega arith

pub sr_whole : (x : ℕ) → x < 2 ^ 16 → ones_in x ≡ true → f_in x + 2 ^ 8 * (bank_in x).0 + 2 ^ 11 + 2 ^ 12 * (level_in x).0 + 2 ^ 15 ≡ x
sr_whole x h ones =
    let two = and_true (eqb (x / 0x800 % 2) 1) _ ones in
    let e1 : x / 0x100 / 8 ≡ x / 0x800 = shr-shr x 8 3 in
    let e2 : x / 0x800 / 2 ≡ x / 0x1000 = shr-shr x 11 1 in
    let e3 : x / 0x1000 / 8 ≡ x / 0x8000 = shr-shr x 12 3 in
    sr_digits x (x / 0x100) (x / 0x800) (x / 0x1000) (x / 0x8000) (x % 0x100) (x / 0x100 % 8) (x / 0x800 % 2) (x / 0x1000 % 8)
    (div-add-mod' x 0x100)
    (ap (λ (n : ℕ). n * 8 + x / 0x100 % 8) (sym e1) ∙ div-add-mod' (x / 0x100) 8)
    (ap (λ (n : ℕ). n * 2 + x / 0x800 % 2) (sym e2) ∙ div-add-mod' (x / 0x800) 2)
    (ap (λ (n : ℕ). n * 8 + x / 0x1000 % 8) (sym e3) ∙ div-add-mod' (x / 0x1000) 8)
    (omega arith) (eqb-true _ _ two.0) (eqb-true _ _ two.1)
