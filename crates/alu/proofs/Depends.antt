-- A result depends on the low k bits of the operands only.
use mathlib.Core.Path.{◌≡◌}
use mathlib.Core.Bool.{Bool, false}
use Prim.Native.Nat.{ℕ, ◌+◌, ◌-◌, ◌%◌, ◌^◌, ◌/◌}
use native.Mathlib.Nat.{mod-mod}
use native.Mathlib.Omega.{arith}
use lib.Pow.{mod-mod-pow}
use Rattle.alu.specs.declared.Arith.{Arith}
use Rattle.alu.specs.declared.Arith.TheVariants.{Add, Adc, Sub, Sbc, And, Xor, Or, Cp}
use Rattle.alu.specs.declared.Shift.{Shift}
use Rattle.flags.specs.declared.Flags.{Flags}
use Rattle.flags.specs.Sums.{sum_of, difference_of}
use Rattle.alu.specs.Logic.{and_of, or_of, xor_of}
use Rattle.alu.specs.Operation.{operated}
use Rattle.alu.specs.Shift.{shift_of}
use Rattle.alu.specs.Count.{inc_of, dec_of}
use Rattle.alu.specs.Extend.{extz_of, exts_of}

low_low : (k x : ℕ) → x % 2 ^ k % 2 ^ k ≡ x % 2 ^ k
low_low k x = mod-mod x (2 ^ k)

-- sums and differences
pub sum_low : (k a b : ℕ) (c : Bool) → sum_of k (a % 2 ^ k) (b % 2 ^ k) c ≡ sum_of k a b c
unfolding sum_of
sum_low k a b c = simp (low_low k)

pub difference_low : (k a b : ℕ) (c : Bool) → difference_of k (a % 2 ^ k) (b % 2 ^ k) c ≡ difference_of k a b c
unfolding difference_of
difference_low k a b c = simp (low_low k)

-- the eight operations
pub operated_low : (op : Arith) (k a b : ℕ) (c : Bool) → operated op k (a % 2 ^ k) (b % 2 ^ k) c ≡ operated op k a b c
unfolding operated and_of or_of xor_of
operated_low Add k a b c = sum_low k a b false
operated_low Adc k a b c = sum_low k a b c
operated_low Sub k a b c = difference_low k a b false
operated_low Sbc k a b c = difference_low k a b c
operated_low And k a b c = simp (low_low k)
operated_low Xor k a b c = simp (low_low k)
operated_low Or k a b c = simp (low_low k)
operated_low Cp k a b c = difference_low k a b false

-- the shifts
pub shift_low : (w : Shift) (k a n : ℕ) → shift_of w k (a % 2 ^ k) n ≡ shift_of w k a n
unfolding shift_of
shift_low w k a n = simp (low_low k)

-- INC and DEC
pub inc_low : (old : Flags) (k a n : ℕ) → inc_of old k (a % 2 ^ k) (n % 2 ^ k) ≡ inc_of old k a n
unfolding inc_of
inc_low old k a n = rw (sum_low k a n false)

pub dec_low : (old : Flags) (k a n : ℕ) → dec_of old k (a % 2 ^ k) (n % 2 ^ k) ≡ dec_of old k a n
unfolding dec_of
dec_low old k a n = rw (difference_low k a n false)

-- EXTZ and EXTS, and these on the low half alone
pub extz_low : (k a : ℕ) → extz_of k (a % 2 ^ k) ≡ extz_of k a
unfolding extz_of
extz_low k a =
    let e : k - k / 2 + k / 2 ≡ k = omega arith in
    rw e at (mod-mod-pow a (k - k / 2) (k / 2))

pub exts_low : (k a : ℕ) → exts_of k (a % 2 ^ k) ≡ exts_of k a
unfolding exts_of
exts_low k a = rw (extz_low k a)
