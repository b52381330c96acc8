-- MUL, MULS, DIV and DIVS (request K7): of an operand a of 2 k bits, which gets the result, and b of k bits.
use Rattle.std.specs.Prelude.{ℕ, suc, ◌+◌, ◌-◌, ◌*◌, ◌/◌, ◌%◌, ◌^◌, Bool, true, false, cond, not, ◌&&◌, ◌||◌, leb, eqb}
use Rattle.std.specs.Prelude.{ℤ, pos, negsuc, neg_ℤ, ◌*ℤ◌}
use Rattle.std.specs.Int.Signed.{quot_z, rem_z, le_z, lt_z}
use Rattle.flags.specs.{declared.Computed.Computed, declared.Flags.Flags, Width.low, Width.negative, Flag.keeping, Flag.dividing}
use Rattle.feed.specs.declared.scale.Divided.{Divided}
use Rattle.feed.specs.declared.scale.Scale.{Scale}
use Rattle.feed.specs.declared.scale.Scale.TheVariants.{Mul, Muls, Div, Divs}

-- the whole number that x stands for with a sign, in k bits: x, or x less 2 ^ k where the top bit is one
abbrev pub signed : ℕ → ℕ → ℤ
signed k x = cond (negative k x) (neg_ℤ (pos (2 ^ k - x))) (pos x)

-- a whole number in k bits: modulo 2 ^ k
abbrev pub bits_for : ℕ → ℤ → ℕ
bits_for k (pos n) = n % 2 ^ k
bits_for k (negsuc n) = 2 ^ k - suc (n % 2 ^ k)

-- MUL: the lower half of a, times b
unfoldable pub mul_of : ℕ → ℕ → ℕ → ℕ
mul_of k a b = low k a * low k b

-- MULS: the same of numbers with a sign, in 2 k bits
unfoldable pub muls_of : ℕ → ℕ → ℕ → ℕ
muls_of k a b = bits_for (2 * k) (signed k (low k a) *ℤ signed k (low k b))

-- the quotient in the lower half and the remainder in the upper half
abbrev pub halves_of : ℕ → ℕ → ℕ → Divided
halves_of k quotient remainder = record { value = remainder * 2 ^ k + quotient; over = false }

-- no quotient: the operand is kept
abbrev pub kept_as : ℕ → Divided
kept_as x = record { value = x; over = true }

-- DIV: there is no quotient where the divisor is 0 or k bits do not hold it
unfoldable pub div_of : ℕ → ℕ → ℕ → Divided
div_of k a b =
    let x = low (2 * k) a in
    let y = low k b in
    cond (eqb y 0 || leb (2 ^ k) (x / y)) (kept_as x) (halves_of k (x / y) (x % y))

-- whether k bits hold a number with a sign: from - 2 ^ (k - 1) on, and below 2 ^ (k - 1)
abbrev pub holds_signed : ℕ → ℤ → Bool
holds_signed k q = le_z (neg_ℤ (pos (2 ^ (k - 1)))) q && lt_z q (pos (2 ^ (k - 1)))

-- DIVS: the same of numbers with a sign. The quotient is rounded toward zero, and the remainder has the dividend's sign
unfoldable pub divs_of : ℕ → ℕ → ℕ → Divided
divs_of k a b =
    let x = low (2 * k) a in
    let y = low k b in
    let q = quot_z (signed (2 * k) x) (signed k y) in
    let r = rem_z (signed (2 * k) x) (signed k y) in
    cond (eqb y 0 || not (holds_signed k q)) (kept_as x) (halves_of k (bits_for k q) (bits_for k r))

-- a division's result: V is 1 where there was no quotient, and else 0; the other flags are kept
abbrev pub divided_of : Flags → Divided → Computed
divided_of old d = record { value = d.value; flags = dividing old d.over }

-- the four; `old` are the flags before
abbrev pub scaled : Scale → ℕ → ℕ → ℕ → Flags → Computed
scaled Mul k a b old = keeping old (mul_of k a b)
scaled Muls k a b old = keeping old (muls_of k a b)
scaled Div k a b old = divided_of old (div_of k a b)
scaled Divs k a b old = divided_of old (divs_of k a b)
