use mathlib.Core.Path.{refl, ap, sym, ◌∙◌}
use borrow.Author.Tests.{eq-eqb, ne_eqb}
use Rattle.state.specs.declared.State.{State}
use Rattle.saved.proofs.Laws.{load_good}
use Rattle.saved.proofs.Refusals.{bad_records}
use Rattle.saved.proofs.load_of.Goals as goal
use Rattle.std.proofs.Common.{Ok}

pub returns-then-bytes-n : goal.returns-then-bytes-n
returns-then-bytes-n c =
    let a = c.args in
    c.refuse.ensures ∙ sym (bad_records a.n a.bytes.now (rw (ne_eqb _ _ c.if-bytes-n.true) refl))

pub returns-then-valid-fixed_at : goal.returns-then-valid-fixed_at
returns-then-valid-fixed_at c =
    let a = c.args in
    let t = rw (c.valid.ensures, c.state_at-s.ensures, c.fixed_at.ensures) at c.if-valid-fixed_at.true in
    ap (λ (s : State). record { answer = Ok tt; state = s }) c.state_at-s.ensures
    ∙ sym (load_good a.n a.bytes.now (rw (eq-eqb _ _ c.if-bytes-n.false) t))

pub returns : goal.returns
returns c =
    let a = c.args in
    let t = rw (c.valid.ensures, c.state_at-s.ensures, c.fixed_at.ensures) at c.if-valid-fixed_at.false in
    c.refuse-2.ensures ∙ sym (bad_records a.n a.bytes.now (rw (eq-eqb _ _ c.if-bytes-n.false) t))
