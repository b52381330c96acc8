-- Whatever an operation or a change makes of the flags, a marked one is 0; which are marked.
use mathlib.Core.Path.{◌≡◌, refl}
use mathlib.Core.Bool.{Bool, true, false, cond}
use Prim.Native.Nat.{ℕ}
use lib.Dec.{eqb}
use Rattle.flags.specs.declared.Flags.{Flags}
use Rattle.flags.specs.declared.Computed.{Computed}
use Rattle.flags.specs.Flag.{keeping_c}
use Rattle.flags.specs.Undefined.{by_parity, undefined_of}
use Rattle.flags.specs.Sums.{result_of, sum_of, difference_of}
use Rattle.flags.proofs.Fits.{Fits, computed_fits, sum_fits, difference_fits, keeping_fits}
use Rattle.alu.specs.declared.Arith.{Arith}
use Rattle.alu.specs.declared.Arith.TheVariants.{Add, Adc, Sub, Sbc, And, Xor, Or, Cp}
use Rattle.alu.specs.declared.Shift.{Shift}
use Rattle.alu.specs.declared.change.Change.{Change}
use Rattle.alu.specs.declared.change.Change.TheVariants.{Inc, Dec, ShiftBy, Extz, Exts}
use Rattle.alu.specs.Logic.{plain, and_of, or_of, xor_of}
use Rattle.alu.specs.Operation.{operated}
use Rattle.alu.specs.Shift.{shift_of}
use Rattle.alu.specs.Count.{steps_of, counted_of, inc_of, dec_of}
use Rattle.alu.specs.Change.{changed}
use Rattle.alu.specs.Meaning.{made_by, MarksAre}

plain_fits : (k r : ℕ) (h c : Bool) → Fits (plain k r h c).flags
unfolding plain
plain_fits k r h c = computed_fits k r (by_parity k) h _ false c

pub operated_fits : (op : Arith) (k a b : ℕ) (c : Bool) → Fits (operated op k a b c).flags
unfolding operated and_of or_of xor_of
operated_fits Add k a b c = sum_fits k a b false
operated_fits Adc k a b c = sum_fits k a b c
operated_fits Sub k a b c = difference_fits k a b false
operated_fits Sbc k a b c = difference_fits k a b c
operated_fits And k a b c = plain_fits k _ _ _
operated_fits Xor k a b c = plain_fits k _ _ _
operated_fits Or k a b c = plain_fits k _ _ _
operated_fits Cp k a b c = difference_fits k a b false

counted_fits : (old : Flags) (k : ℕ) (r : Computed) → Fits old → Fits r.flags → Fits (counted_of old k r).flags
counted_fits old k r x y = go (eqb k 8)
  where
    go : (b : Bool) → Fits (cond b (keeping_c old r.flags) old)
    go true = keeping_fits old r.flags y
    go false = x

pub changed_fits : (how : Change) (k a : ℕ) (old : Flags) → Fits old → Fits (changed how k a old).flags
unfolding inc_of dec_of shift_of
changed_fits (Inc n) k a old x = counted_fits old k (sum_of k a (steps_of n) false) x (sum_fits k a (steps_of n) false)
changed_fits (Dec n) k a old x = counted_fits old k (difference_of k a (steps_of n) false) x (difference_fits k a (steps_of n) false)
changed_fits (ShiftBy kind n) k a old x = plain_fits k _ false _
changed_fits Extz k a old x = x
changed_fits Exts k a old x = x

-- ---- which are marked
operated_marks : (op : Arith) (k a b : ℕ) (c : Bool) → (operated op k a b c).flags.marks ≡ undefined_of (made_by op k)
unfolding operated sum_of difference_of plain and_of or_of xor_of result_of
operated_marks Add k a b c = refl
operated_marks Adc k a b c = refl
operated_marks Sub k a b c = refl
operated_marks Sbc k a b c = refl
operated_marks And k a b c = refl
operated_marks Xor k a b c = refl
operated_marks Or k a b c = refl
operated_marks Cp k a b c = refl

shifted_marks : (w : Shift) (k a n : ℕ) → (shift_of w k a n).flags.marks ≡ undefined_of (by_parity k)
unfolding shift_of result_of
shifted_marks w k a n = refl

pub marks_are : MarksAre
marks_are = (operated_marks, shifted_marks)
