-- What the conditions after a comparison, shifts and EXTS mean, for every width of k bits.
-- Which flags are marked. Each statement is proved in proofs/Fits.antt, proofs/Order.antt or proofs/Shifting.antt.
use Rattle.std.specs.Prelude.{ℕ, suc, ◌+◌, ◌-◌, ◌*◌, ◌/◌, ◌^◌, ◌<◌, ◌≡◌, Bool, leb, ltb}
use Rattle.little.specs.{declared.Size.Size, Width.bits_of}
use Rattle.flags.specs.{declared.Flags.Flags, Width.low, Condition.holds_of, Meaning.off}
use Rattle.flags.specs.Undefined.{Made, by_sum, by_parity, undefined_of}
use Rattle.alu.specs.{declared.Shift.Shift, declared.Arith.Arith, Operation.operated, Shift.one_place, Shift.shift_of}
use Rattle.alu.specs.declared.Arith.TheVariants.{Add, Adc, Sub, Sbc, And, Xor, Or, Cp}
use Rattle.alu.specs.{Extend.extz_of, Extend.exts_of}
use Rattle.alu.specs.declared.Shift.TheVariants.{Sla, Sra, Sll, Srl}

-- how each operation makes its flags, and so which of them the book leaves undefined
abbrev pub made_by : Arith → ℕ → Made
made_by Add k = by_sum k
made_by Adc k = by_sum k
made_by Sub k = by_sum k
made_by Sbc k = by_sum k
made_by And k = by_parity k
made_by Xor k = by_parity k
made_by Or k = by_parity k
made_by Cp k = by_sum k

-- an operation and a shift mark just these
abbrev pub MarksAre : Type 0
MarksAre =
    ((op : Arith) (k a b : ℕ) (c : Bool) → (operated op k a b c).flags.marks ≡ undefined_of (made_by op k))
    × ((w : Shift) (k a n : ℕ) → (shift_of w k a n).flags.marks ≡ undefined_of (by_parity k))

-- after a comparison of x with y the conditions C and ULE order the numbers without a sign, LT and LE those with one
pub record Ordered (k x y : ℕ) (f : Flags) : Type 0 where
  pub below : holds_of f 7 ≡ ltb x y
  pub at_most : holds_of f 3 ≡ leb x y
  pub less : holds_of f 1 ≡ ltb (x + off k y) (y + off k x)
  pub less_or_equal : holds_of f 2 ≡ leb (x + off k y) (y + off k x)

abbrev pub ComparisonOrders : Type 0
ComparisonOrders = (k a b : ℕ) (c : Bool) → 0 < k → Ordered k (low k a) (low k b) (operated Cp k a b c).flags

-- a shift by n + 1 ends with one place: its value, and C is the bit that this place puts out
pub record LastPlace (w : Shift) (k a n : ℕ) : Type 0 where
  pub value : (shift_of w k a (suc n)).value ≡ (one_place w k (shift_of w k a n).value).value
  pub carry : (shift_of w k a (suc n)).flags.c ≡ (one_place w k (shift_of w k a n).value).out

abbrev pub EndsWithAPlace : Type 0
EndsWithAPlace = (w : Shift) (k a n : ℕ) → LastPlace w k a n

-- SLA and SLL multiply by 2 ^ n
abbrev pub LeftMultiplies : Type 0
LeftMultiplies = (k a n : ℕ) → ((shift_of Sla k a n).value ≡ low k (a * 2 ^ n)) × ((shift_of Sll k a n).value ≡ low k (a * 2 ^ n))

-- and have the same flags
abbrev pub LeftShiftsAgree : Type 0
LeftShiftsAgree = (k a n : ℕ) → shift_of Sla k a n ≡ shift_of Sll k a n

-- SRL divides by 2 ^ n, rounding down
abbrev pub RightDivides : Type 0
RightDivides = (k a n : ℕ) → (shift_of Srl k a n).value ≡ low k a / 2 ^ n

-- SRA does so with the number that has a sign, x - off x; off x is added again, so the sign stays
abbrev pub SignedRightDivides : Type 0
SignedRightDivides = (k a n : ℕ) → 0 < k → (shift_of Sra k a n).value ≡ (low k a + off k (low k a) * (2 ^ n - 1)) / 2 ^ n

-- EXTS stands for the same number as the low half of its operand
abbrev pub ExtsKeepsNumber : Type 0
ExtsKeepsNumber = (s : Size) (a : ℕ) → let k = bits_of s in exts_of k a + off (k / 2) (extz_of k a) ≡ extz_of k a + off k (exts_of k a)
