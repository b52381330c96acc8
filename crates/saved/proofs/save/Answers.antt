use mathlib.Core.Path.{sym, ◌∙◌}
use mathlib.Core.Logic.{inl, inr}
use native.Mathlib.Omega.{arith}
use Rattle.state.proofs.Valid.{valid_says}
use Rattle.saved.proofs.Laws.{record_filled}
use Rattle.saved.proofs.Refusals.{saves}
use Rattle.saved.proofs.save.Goals as goal

-- each write, from the last back to the front, and the tests before them
pub returns-then-out-eq-LENGTH : goal.returns-then-out-eq-LENGTH
returns-then-out-eq-LENGTH c =
    let a = c.args in
    let v = sym c.valid.ensures ∙ c.if-valid.true in
    let d = (saves a.s a.out.now).0 v c.if-out-eq-LENGTH.true in (
      sym d.0,
      record_filled a.s
          c.save_front.new.out c.write_at.new.out c.write_at-then-out-eq-LENGTH.new.out c.write_at-then-out-eq-LENGTH-2.new.out
          (valid_says a.s v) c.marks_byte.ensures (omega arith)
          c.save_front.ensures c.write_at.ensures c.write_at-then-out-eq-LENGTH.ensures c.write_at-then-out-eq-LENGTH-2.ensures
          ∙ sym d.1,
    )

pub returns-else-out-eq-LENGTH : goal.returns-else-out-eq-LENGTH
returns-else-out-eq-LENGTH c =
    let a = c.args in
    let d = (saves a.s a.out.now).1 (inr c.if-out-eq-LENGTH.false) in
    (sym d.0, sym d.1)

pub returns-else-valid : goal.returns-else-valid
returns-else-valid c =
    let a = c.args in
    let d = (saves a.s a.out.now).1 (inl (sym c.valid.ensures ∙ c.if-valid.false)) in
    (sym d.0, sym d.1)
