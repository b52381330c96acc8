-- What stays the same from place to place of a shift: all that one place is made by.
use Rattle.std.specs.Prelude.{ℕ, ◌-◌, ◌^◌, ◌<◌, ◌≡◌, Bool, true, false}
use Rattle.flags.specs.Width.{weighed}
use Rattle.alu.specs.declared.Shift.{Shift}
use Rattle.alu.specs.declared.Shift.TheVariants.{Sla, Sra, Sll, Srl}

-- whether a shift goes to the left
abbrev pub leftward : Shift → Bool
leftward Sla = true
leftward Sra = false
leftward Sll = true
leftward Srl = false

-- what comes in above where it goes to the right: SRA keeps the sign
abbrev pub comes_in : Shift → ℕ → ℕ → ℕ
comes_in Sla k x = 0
comes_in Sra k x = weighed k x
comes_in Sll k x = 0
comes_in Srl k x = 0

-- a shift of x, of k bits, goes to the left or not, by the weight of the top bit and by what comes in
pub record Goes (w : Shift) (k x : ℕ) (left : Bool) (top above : ℕ) : Type 0 where
  pub wide : 0 < k
  pub way : left ≡ leftward w
  pub weight : top ≡ 2 ^ (k - 1)
  pub comes : above ≡ comes_in w k x
