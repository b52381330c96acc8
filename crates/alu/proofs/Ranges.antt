-- Every result of k bits is below 2 ^ k.
use Prim.Native.Nat.{ℕ, ◌+◌, ◌-◌, ◌/◌, ◌^◌, ◌<◌}
use mathlib.Core.Bool.{Bool, true, false, cond}
use native.Mathlib.Nat.{mod-lt, lt_of_lt_of_le}
use native.Mathlib.Omega.{arith}
use lib.Pow.{pow_pos}
use lib.Bits.{and_lt, or_lt, xor_lt}
use Rattle.little.specs.declared.Size.{Size}
use Rattle.little.specs.Width.{bits_of}
use Rattle.alu.specs.declared.Arith.{Arith}
use Rattle.alu.specs.declared.Arith.TheVariants.{Add, Adc, Sub, Sbc, And, Xor, Or, Cp}
use Rattle.alu.specs.declared.Shift.{Shift}
use Rattle.alu.specs.declared.change.Change.{Change}
use Rattle.alu.specs.declared.change.Change.TheVariants.{Inc, Dec, ShiftBy, Extz, Exts}
use Rattle.flags.specs.declared.Flags.{Flags}
use Rattle.flags.specs.Width.{low, negative}
use Rattle.flags.specs.Sums.{result_of, sum_of, difference_of}
use Rattle.alu.specs.Logic.{plain, and_of, or_of, xor_of}
use Rattle.alu.specs.Operation.{operated}
use Rattle.alu.specs.Shift.{shifted, shift_of}
use Rattle.alu.specs.Count.{inc_of, dec_of}
use Rattle.alu.specs.Extend.{extz_of, exts_of}
use Rattle.alu.specs.Change.{changed}
use Rattle.alu.proofs.Shifts.{shift_lt}
use Rattle.flags.proofs.Widths.{bits_pos, half_le}

pub sum_lt : (k a b : ℕ) (c : Bool) → (sum_of k a b c).value < 2 ^ k
unfolding sum_of result_of
sum_lt k a b c = mod-lt _ (pow_pos k)

pub difference_lt : (k a b : ℕ) (c : Bool) → (difference_of k a b c).value < 2 ^ k
unfolding difference_of result_of
difference_lt k a b c = mod-lt _ (pow_pos k)

-- the eight operations
pub operated_lt : (op : Arith) (k a b : ℕ) (c : Bool) → (operated op k a b c).value < 2 ^ k
unfolding operated plain and_of or_of xor_of result_of
operated_lt Add k a b c = sum_lt k a b false
operated_lt Adc k a b c = sum_lt k a b c
operated_lt Sub k a b c = difference_lt k a b false
operated_lt Sbc k a b c = difference_lt k a b c
operated_lt And k a b c = and_lt k (low k a) (low k b) (mod-lt a (pow_pos k)) (mod-lt b (pow_pos k))
operated_lt Xor k a b c = xor_lt k (low k a) (low k b) (mod-lt a (pow_pos k)) (mod-lt b (pow_pos k))
operated_lt Or k a b c = or_lt k (low k a) (low k b) (mod-lt a (pow_pos k)) (mod-lt b (pow_pos k))
operated_lt Cp k a b c = difference_lt k a b false

-- the shifts, by any number of places
pub shifted_lt : (w : Shift) (k a n : ℕ) → 0 < k → (shift_of w k a n).value < 2 ^ k
unfolding shift_of result_of
shifted_lt w k a n p = shift_lt w k n (shifted (low k a) false) p (mod-lt a (pow_pos k))

-- INC and DEC
pub inc_lt : (old : Flags) (k a n : ℕ) → (inc_of old k a n).value < 2 ^ k
unfolding inc_of
inc_lt old k a n = sum_lt k a n false

pub dec_lt : (old : Flags) (k a n : ℕ) → (dec_of old k a n).value < 2 ^ k
unfolding dec_of
dec_lt old k a n = difference_lt k a n false

-- EXTZ, within its half too, and EXTS
pub extz_half : (k a : ℕ) → extz_of k a < 2 ^ (k / 2)
unfolding extz_of
extz_half k a = mod-lt a (pow_pos (k / 2))

pub extz_lt : (s : Size) (a : ℕ) → extz_of (bits_of s) a < 2 ^ bits_of s
extz_lt s a = lt_of_lt_of_le (extz_half (bits_of s) a) (half_le s)

cond_lt : (b : Bool) (x y n : ℕ) → x < n → y < n → cond b x y < n
cond_lt true x y n p q = p
cond_lt false x y n p q = q

pub exts_lt : (s : Size) (a : ℕ) → exts_of (bits_of s) a < 2 ^ bits_of s
unfolding exts_of
exts_lt s a =
    let k = bits_of s in
    cond_lt (negative (k / 2) (extz_of k a)) (extz_of k a + (2 ^ k - 2 ^ (k / 2))) (extz_of k a) (2 ^ k)
    (omega (arith, extz_half (bits_of s) a, half_le s)) (extz_lt s a)

pub changed_lt : (how : Change) (s : Size) (x : ℕ) (old : Flags) → (changed how (bits_of s) x old).value < 2 ^ bits_of s
changed_lt (Inc n) s x old = inc_lt old (bits_of s) x _
changed_lt (Dec n) s x old = dec_lt old (bits_of s) x _
changed_lt (ShiftBy w n) s x old = shifted_lt w (bits_of s) x _ (bits_pos s)
changed_lt Extz s x old = extz_lt s x
changed_lt Exts s x old = exts_lt s x
