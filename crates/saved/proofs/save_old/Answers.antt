use mathlib.Core.Path.{sym, ◌∙◌}
use mathlib.Core.Logic.{inl, inr}
use native.Mathlib.Omega.{arith}
use Rattle.saved.proofs.Laws.{front_whole}
use Rattle.saved.proofs.Refusals.{old_saves}
use Rattle.saved.proofs.save_old.Goals as goal

pub returns-then-out-eq-OLD_LENGTH : goal.returns-then-out-eq-OLD_LENGTH
returns-then-out-eq-OLD_LENGTH c =
    let a = c.args in
    let v = sym c.valid.ensures ∙ c.if-valid.true in
    let d = (old_saves a.s a.out.now).0 v (sym c.fits_old.ensures ∙ c.if-fits_old.true) c.if-out-eq-OLD_LENGTH.true in
    (sym d.0, front_whole a.s c.save_front.new.out (omega arith) c.save_front.ensures ∙ sym d.1)

pub returns-else-out-eq-OLD_LENGTH : goal.returns-else-out-eq-OLD_LENGTH
returns-else-out-eq-OLD_LENGTH c =
    let a = c.args in
    let d = (old_saves a.s a.out.now).1 (inr (inr c.if-out-eq-OLD_LENGTH.false)) in
    (sym d.0, sym d.1)

pub returns-else-fits_old : goal.returns-else-fits_old
returns-else-fits_old c =
    let a = c.args in
    let d = (old_saves a.s a.out.now).1 (inr (inl (sym c.fits_old.ensures ∙ c.if-fits_old.false))) in
    (sym d.0, sym d.1)

pub returns-else-valid : goal.returns-else-valid
returns-else-valid c =
    let a = c.args in
    let d = (old_saves a.s a.out.now).1 (inl (sym c.valid.ensures ∙ c.if-valid.false)) in
    (sym d.0, sym d.1)
