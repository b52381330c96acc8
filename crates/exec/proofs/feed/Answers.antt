use mathlib.Core.Path.{sym, ◌∙◌}
use Rattle.code.specs.declared.Use.TheVariants.{Scaled, ScaledWith, Cycled}
use Rattle.state.specs.inner.Lent.{banked_with}
use Rattle.operand.proofs.Placed.{low_at_lem}
use Rattle.exec.proofs.Feeding.{put_fed, short_fed, none_fed}
use Rattle.exec.proofs.feed.Goals as goal

pub returns-in-Scaled : goal.returns-in-Scaled
returns-in-Scaled c o there s ram rom =
    let a = c.args in
    let e = c.read.ensures o (low_at_lem a.bank a.size o a.r there ∙ sym c.low_at.ensures) in
    put_fed a.size o a.code.now (banked_with s a.regs.now a.bank a.flags.now) _ ram rom (Scaled c.in-Scaled.how c.in-Scaled.first) c.in-Scaled.n
    (rw c.in-Scaled.is at e) (c.scale.ensures o there s ram rom)

pub returns-in-ScaledWith : goal.returns-in-ScaledWith
returns-in-ScaledWith c o there s ram rom =
    let a = c.args in
    let e = c.read.ensures o (low_at_lem a.bank a.size o a.r there ∙ sym c.low_at.ensures) in
    put_fed a.size o a.code.now (banked_with s a.regs.now a.bank a.flags.now) _ ram rom (ScaledWith c.in-ScaledWith.how c.in-ScaledWith.v) c.in-ScaledWith.n
    (rw c.in-ScaledWith.is at e) (c.scale_with.ensures o a.bank there s ram rom)

pub returns-in-Cycled : goal.returns-in-Cycled
returns-in-Cycled c o there s ram rom =
    let a = c.args in
    let e = c.read.ensures o (low_at_lem a.bank a.size o a.r there ∙ sym c.low_at.ensures) in
    put_fed a.size o a.code.now (banked_with s a.regs.now a.bank a.flags.now) _ ram rom (Cycled c.in-Cycled.how) c.in-Cycled.n
    (rw c.in-Cycled.is at e) (c.cycle.ensures o a.bank there s a.flags.now ram rom)

pub returns-in-Short : goal.returns-in-Short
returns-in-Short c o there s ram rom =
    let a = c.args in
    let e = c.read.ensures o (low_at_lem a.bank a.size o a.r there ∙ sym c.low_at.ensures) in
    short_fed a.size o a.code.now (banked_with s a.regs.now a.bank a.flags.now) ram rom (rw c.in-Short.is at e)

pub returns-in-Unlisted : goal.returns-in-Unlisted
returns-in-Unlisted c o there s ram rom =
    let a = c.args in
    let e = c.read.ensures o (low_at_lem a.bank a.size o a.r there ∙ sym c.low_at.ensures) in
    none_fed a.size o a.code.now (banked_with s a.regs.now a.bank a.flags.now) ram rom (rw c.in-Unlisted.is at e)
