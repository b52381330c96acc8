-- A marked flag whose bit is 1 is a bad record.
use Prim.Native.Nat.{ℕ, ◌+◌, ◌*◌, ◌/◌, ◌%◌, ◌^◌, ◌<◌}
use mathlib.Core.Path.{◌≡◌, refl}
use mathlib.Core.Bool.{Bool, true, false, ◌||◌}
use mathlib.Core.List.{List}
use native.Mathlib.Omega.{arith}
use lib.ListN.{get_or, drop}
use lib.Seq.{get_or-drop}
use Rattle.little.specs.Bytes.{Bytes}
use Rattle.state.specs.State.{clear, flags_valid}
use Rattle.state.specs.Sr.{f_in}
use Rattle.state.proofs.Valid.{valid_says, flags_say}
use Rattle.saved.specs.Record.{record_length, sr_at, marks_at, state_at, is_record}
use Rattle.saved.specs.Statements.{MarkedOnesAreBad}
use Rattle.saved.proofs.Numbers.{two}
use Rattle.saved.proofs.RoundTrip.{good_says}

-- what valid flags say of each mark, where the flags are b and the marks k
marked_zero : (b k : ℕ) → b < 2 ^ 8 → flags_valid (b + 2 ^ 8 * k) ≡ true → ((clear 0 k || clear 4 b) ≡ true) × ((clear 1 k || clear 2 b) ≡ true)
marked_zero b k h e =
    let f = b + 2 ^ 8 * k in
    let g = flags_say f e in
    let m0 : f / 2 ^ 8 % 2 ≡ k / 2 ^ 0 % 2 = omega arith in
    let m1 : f / 2 ^ 9 % 2 ≡ k / 2 ^ 1 % 2 = omega arith in
    let f4 : f / 2 ^ 4 % 2 ≡ b / 2 ^ 4 % 2 = omega arith in
    let f2 : f / 2 ^ 2 % 2 ≡ b / 2 ^ 2 % 2 = omega arith in
    (rw (m0, f4) at g.1, rw (m1, f2) at g.2)

-- neither is clear: then such a test fails
neither : (x y : Bool) → x ≡ false → y ≡ false → (x || y) ≡ true → ⊥
neither x y e f g = let z : ◌≡◌ {A = ℕ} 0 1 = cc in omega (arith, z)

bad : (x y r : Bool) → (r ≡ true → (x || y) ≡ true) → y ≡ false → x ≡ false → r ≡ false
bad x y false h f e = refl
bad x y true h f e = absurd (neither x y e f (h refl))

-- what a good record says of one flag and its mark
module _ (l : List ℕ) (h : Bytes l) where
  f_is : f_in (sr_at l) ≡ get_or l 84 0
  f_is = rw (two (drop 84 l), get_or-drop 84 l 0 0) (omega (arith, h 84))

  of_f : is_record l ≡ true → ((clear 0 (marks_at l) || clear 4 (get_or l 84 0)) ≡ true) × ((clear 1 (marks_at l) || clear 2 (get_or l 84 0)) ≡ true)
  unfolding state_at
  of_f e =
      let v = valid_says (state_at l) (good_says record_length l e).1 in
      let m0 : marks_at l % 4 / 2 ^ 0 % 2 ≡ marks_at l / 2 ^ 0 % 2 = omega arith in
      let m1 : marks_at l % 4 / 2 ^ 1 % 2 ≡ marks_at l / 2 ^ 1 % 2 = omega arith in
      let z = marked_zero (get_or l 84 0) (marks_at l % 4) (h 84) (rw f_is at v.flags) in
      (rw m0 at z.0, rw m1 at z.1)

  of_spare : is_record l ≡ true → ((clear 2 (marks_at l) || clear 4 (get_or l 86 0)) ≡ true) × ((clear 3 (marks_at l) || clear 2 (get_or l 86 0)) ≡ true)
  unfolding state_at
  of_spare e =
      let v = valid_says (state_at l) (good_says record_length l e).1 in
      let m2 : marks_at l / 4 / 2 ^ 0 % 2 ≡ marks_at l / 2 ^ 2 % 2 = omega arith in
      let m3 : marks_at l / 4 / 2 ^ 1 % 2 ≡ marks_at l / 2 ^ 3 % 2 = omega arith in
      let z = marked_zero (get_or l 86 0) (marks_at l / 4) (h 86) v.spare in
      (rw m2 at z.0, rw m3 at z.1)

pub marked_ones_are_bad : MarkedOnesAreBad
marked_ones_are_bad l h = (
  bad _ _ (is_record l) (λ e. (of_f l h e).0),
  bad _ _ (is_record l) (λ e. (of_f l h e).1),
  bad _ _ (is_record l) (λ e. (of_spare l h e).0),
  bad _ _ (is_record l) (λ e. (of_spare l h e).1),
)
