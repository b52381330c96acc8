use Rattle.std.proofs.Common.{refl, ap, ◌∙◌, Ok}
use Rattle.state.specs.declared.State.{State}
use Rattle.state.specs.State.{banked}
use Rattle.operand.specs.Try.{after}
use Rattle.operand.proofs.Laws.{then_done}
use Rattle.stack.specs.Stack.{push_bytes}
use Rattle.request.specs.Request.{entered}
use Rattle.request.specs.inner.Taking.{pushed_of}
use Rattle.request.proofs.Laws.{entered_is, refused_by}
use Rattle.request.proofs.enter.Goals as goal

pub returns-in-Err : goal.returns-in-Err
returns-in-Err c =
    let a = c.args in
    let p = c.push_six in
    let e = rw c.sr.ensures at (p.ensures a.s) in
    let d = c.in-Err.is in
    rw c.untaken.ensures
    (rw d at (refused_by a.s _ a.ram.now _ p.result c.in-Err.why (push_bytes a.s a.ram.now a.rom.now 6 (pushed_of a.s)) (entered a.level.0 a.vector) e d), refl)

pub returns : goal.returns
returns c =
    let a = c.args in
    let p = c.push_six in
    let e = rw c.sr.ensures at (p.ensures a.s) in
    let u = banked a.s p.new.regs a.s.bank in
    rw (c.whole-t.ensures, c.raised.ensures) (
      ap (λ (t : State). after (Ok tt) t p.new.ram) (entered_is u a.level.0 a.vector)
          ∙ then_done a.s a.ram.now p.result u _ (entered a.level.0 a.vector) (push_bytes a.s a.ram.now a.rom.now 6 (pushed_of a.s)) e c.in_default.is,
      refl,
    )
