use mathlib.Core.Path.{◌≡◌, sym, ap, ◌∙◌}
use mathlib.Core.Bool.{true, false}
use Prim.Native.Nat.{ℕ, ◌/◌, ◌%◌}
use lib.Dec.{eqb}
use lib.Pow.{shr-shr}
use borrow.Author.Tests.{eq-eqb, ne_eqb}
use Rattle.flags.specs.Flag.{flags_of}
use Rattle.flags.specs.Condition.{reads_v, reads_marked}
use Rattle.flags.proofs.Bools.{and_true, and-false}
use Rattle.flags.proofs.condition.reads_marked.Goals as goal

-- bit 9 is the second of the marks
high : (x : ℕ) → eqb (x / 256 / 2 % 2) 1 ≡ eqb (x / 512 % 2) 1
high x = ap (λ (n : ℕ). eqb (n % 2) 1) (shr-shr x 8 1)

pub returns-then-flags-eq1 : goal.returns-then-flags-eq1
unfolding reads_marked flags_of
returns-then-flags-eq1 c =
    let a = c.args in
    let m : eqb (a.flags / 256 / 2 % 2) 1 ≡ true = high a.flags ∙ eq-eqb _ _ c.if-flags-eq1.true in
    rw m (c.reads_v.ensures ∙ sym (and_true _))

pub returns : goal.returns
unfolding reads_marked flags_of
returns c =
    let a = c.args in
    let m : eqb (a.flags / 256 / 2 % 2) 1 ≡ false = high a.flags ∙ ne_eqb _ _ c.if-flags-eq1.false in
    rw m (sym (and-false (reads_v a.cc)))
