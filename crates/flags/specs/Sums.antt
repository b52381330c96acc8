-- Sums and differences of two operands of k bits, with a carry or borrow in, and their flags.
use Rattle.std.specs.Prelude.{ℕ, ◌+◌, ◌-◌, ◌%◌, ◌^◌, Bool, true, false, not, ◌&&◌, leb, ltb, eqb}
use Rattle.little.specs.Words.{bool_eq}
use Rattle.flags.specs.{declared.Computed.Computed, Width.low, Width.negative, Width.one}
use Rattle.flags.specs.Undefined.{by_sum, undefined_of, marks_h, marks_v}

-- a result of k bits with its S and Z, and the other flags and the marks as given
unfoldable pub result_of : ℕ → ℕ → Bool → Bool → Bool → Bool → ℕ → Computed
result_of k r h v n c marks =
    record { value = r; flags = record { s = negative k r; z = eqb r 0; h = h; v = v; n = n; c = c; marks = marks } }

-- a result some of whose flags the book leaves undefined: each of these is 0 and marked
abbrev pub computed_of : ℕ → ℕ → ℕ → Bool → Bool → Bool → Bool → Computed
computed_of k undefined r h v n c = result_of k r (not (marks_h undefined) && h) (not (marks_v undefined) && v) n c undefined

-- the operands have one sign, and the result the other
abbrev pub turned : Bool → Bool → Bool → Bool
turned x y r = bool_eq x y && not (bool_eq x r)

-- ADD and ADC: x + y + c, where x and y are the k low bits of the operands
unfoldable pub sum_of : ℕ → ℕ → ℕ → Bool → Computed
sum_of k a b c =
    let x = low k a in
    let y = low k b in
    let r = (x + y + one c) % 2 ^ k in
    let h = leb 16 (x % 16 + y % 16 + one c) in
    let v = turned (negative k x) (negative k y) (negative k r) in
    computed_of k (undefined_of (by_sum k)) r h v false (leb (2 ^ k) (x + y + one c))

-- SUB, SBC and CP: x - y - c, in the same way
unfoldable pub difference_of : ℕ → ℕ → ℕ → Bool → Computed
difference_of k a b c =
    let x = low k a in
    let y = low k b in
    let r = (2 ^ k + x - (y + one c)) % 2 ^ k in
    let h = ltb (x % 16) (y % 16 + one c) in
    let v = turned (negative k x) (not (negative k y)) (negative k r) in
    computed_of k (undefined_of (by_sum k)) r h v true (ltb x (y + one c))
