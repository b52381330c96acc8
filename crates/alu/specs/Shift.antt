-- SLA, SRA, SLL and SRL by some places.
use Rattle.std.specs.Prelude.{ℕ, zero, suc, ◌+◌, ◌*◌, ◌/◌, ◌%◌, ◌^◌, Bool, false, cond, eqb}
use Rattle.flags.specs.{declared.Computed.Computed, Width.low, Width.negative, Width.weighed, Width.one}
use Rattle.alu.specs.{declared.Shift.Shift, Logic.plain}
use Rattle.alu.specs.declared.Shift.TheVariants.{Sla, Sra, Sll, Srl}
use Rattle.alu.specs.declared.shifter.Shifted.{Shifted}

-- the places that a code byte asks for: 0 means 16; of a larger one the low four bits count
unfoldable pub places_of : ℕ → ℕ
places_of n = cond (eqb (n % 16) 0) 16 (n % 16)

-- a value, and the bit that was shifted out of it last; and both as one number, the bit above the value
abbrev pub shifted : ℕ → Bool → Shifted
shifted value out = record { value = value; out = out }

abbrev pub joined : Shifted → ℕ
joined s = s.value + one s.out * 2 ^ 32

-- one place to the left: the top bit goes out, 0 comes in below
abbrev pub left_of : ℕ → ℕ → Shifted
left_of k x = shifted (low k (x * 2)) (negative k x)

-- one place to the right: the lowest bit goes out, and what comes in is given at its weight
abbrev pub right_of : ℕ → ℕ → Shifted
right_of x above = shifted (x / 2 + above) (eqb (x % 2) 1)

-- SLA and SLL are the same; to the right, SRA keeps the sign and SRL brings in 0
abbrev pub one_place : Shift → ℕ → ℕ → Shifted
one_place Sla k x = left_of k x
one_place Sra k x = right_of x (weighed k x)
one_place Sll k x = left_of k x
one_place Srl k x = right_of x 0

-- a shift by num is one place and then a shift by num less one
unfoldable pub shift_by : Shift → ℕ → ℕ → Shifted → Shifted
shift_by w k zero s = s
shift_by w k (suc num) s = shift_by w k num (one_place w k s.value)

-- the value and flags of a shift: V parity, C the last bit out
unfoldable pub shift_of : Shift → ℕ → ℕ → ℕ → Computed
unfolding plain
shift_of w k a num =
    let t = shift_by w k num (shifted (low k a) false) in
    plain k t.value false t.out
