use Prim.Native.Nat.{◌+◌, ◌%◌, ◌^◌}
use mathlib.Core.Path.{refl}
use Rattle.code.specs.declared.Use.TheVariants.{Number, From, Load, Compute, Changed}
use Rattle.code.specs.declared.Side.TheVariants.{First, With}
use Rattle.state.specs.inner.Lent.{standing_at}
use Rattle.compute.proofs.Registers.{number_there, from_there, load_there}
use Rattle.little.specs.declared.Size.TheVariants.{Byte, Word, Long}
use Rattle.exec.proofs.Laws.{put_on}
use Rattle.exec.proofs.Feeding.{fed_on}
use Rattle.exec.proofs.of_register.Goals as goal

pub returns-in-Number : goal.returns-in-Number
returns-in-Number c o there rest ram rom =
    let a = c.args in
    let p = standing_at rest ((a.counter.now + c.in-Number.n) % 2 ^ 24) in
    rw (c.on.ensures.0, c.on.ensures.1, c.in-Number.is)
    (put_on rest a.regs.now a.bank a.counter.now a.flags.now c.in-Number.n ram rom (Number c.in-Number.v) a.size o _ _
    (number_there a.size o a.r a.bank there p a.regs.now a.flags.now ram rom c.in-Number.v _ c.write.ensures.put_within))

pub returns-in-From : goal.returns-in-From
returns-in-From c o there rest ram rom =
    let a = c.args in
    let p = standing_at rest ((a.counter.now + c.in-From.n) % 2 ^ 24) in
    rw (c.on-in-From.ensures.0, c.on-in-From.ensures.1, c.in-From.is)
    (put_on rest a.regs.now a.bank a.counter.now a.flags.now c.in-From.n ram rom (From c.in-From.from) a.size o _ _
    (from_there a.size o a.r a.bank there p a.regs.now a.flags.now ram rom c.in-From.from _ _ c.of_register.ensures c.load.ensures.put_within))

pub returns-in-Load : goal.returns-in-Load
returns-in-Load c o there rest ram rom =
    let a = c.args in
    let p = standing_at rest ((a.counter.now + c.in-Load.n) % 2 ^ 24) in
    rw (c.on-in-Load.ensures.0, c.on-in-Load.ensures.1, c.in-Load.is)
    (put_on rest a.regs.now a.bank a.counter.now a.flags.now c.in-Load.n ram rom (Load c.in-Load.to) a.size o _ _
    (load_there a.size o a.r a.bank there p a.regs.now a.flags.now ram rom c.in-Load.to _ _ c.of_register-in-Load.ensures c.load-in-Load.ensures.put_within))

pub returns-in-Compute : goal.returns-in-Compute
returns-in-Compute c o there rest ram rom =
    let a = c.args in
    let p = standing_at rest ((a.counter.now + c.in-Compute.n) % 2 ^ 24) in
    rw (c.on-in-Compute.ensures.0, c.on-in-Compute.ensures.1, c.in-Compute.is)
    (put_on rest a.regs.now a.bank a.counter.now a.flags.now c.in-Compute.n ram rom (Compute c.in-Compute.op (First c.in-Compute.first)) a.size o _ _
    (c.operate.ensures o there p ram rom))

pub returns-in-With : goal.returns-in-With
returns-in-With c o there rest ram rom =
    let a = c.args in
    let p = standing_at rest ((a.counter.now + c.in-With.n) % 2 ^ 24) in
    rw (c.on-in-With.ensures.0, c.on-in-With.ensures.1, c.in-With.is)
    (put_on rest a.regs.now a.bank a.counter.now a.flags.now c.in-With.n ram rom (Compute c.in-With.op (With c.in-With.v)) a.size o _ _
    (c.with.ensures o a.bank there p ram rom))

pub returns-in-Changed : goal.returns-in-Changed
returns-in-Changed c o there rest ram rom =
    let a = c.args in
    let p = standing_at rest ((a.counter.now + c.in-Changed.n) % 2 ^ 24) in
    rw (c.on-in-Changed.ensures.0, c.on-in-Changed.ensures.1, c.in-Changed.is)
    (put_on rest a.regs.now a.bank a.counter.now a.flags.now c.in-Changed.n ram rom (Changed c.in-Changed.how) a.size o _ _
    (c.change.ensures o a.bank there p ram rom))

pub returns-in-Byte : goal.returns-in-Byte
returns-in-Byte c o there rest ram rom =
    let a = c.args in
    let q = c.in-Byte.is in
    rw (c.told.ensures.0, c.told.ensures.1, c.in-Rest.is, q)
    (fed_on Byte o rest a.bank a.regs.now _ a.flags.now _ a.counter.now ram rom a.code.now c.feed.result
    (λ s. c.feed.ensures o (rw (q, ← c.anew.ensures) at there) s ram rom))

pub returns-in-Word : goal.returns-in-Word
returns-in-Word c o there rest ram rom =
    let a = c.args in
    let q = c.in-Word.is in
    rw (c.told-in-Word.ensures.0, c.told-in-Word.ensures.1, c.in-Rest.is, q)
    (fed_on Word o rest a.bank a.regs.now _ a.flags.now _ a.counter.now ram rom a.code.now c.feed-in-Word.result
    (λ s. c.feed-in-Word.ensures o (rw (q, ← c.anew-in-Word.ensures) at there) s ram rom))

pub returns-in-Long : goal.returns-in-Long
returns-in-Long c o there rest ram rom =
    let a = c.args in
    let q = c.in-Long.is in
    rw (c.told-in-Long.ensures.0, c.told-in-Long.ensures.1, c.in-Rest.is, q)
    (fed_on Long o rest a.bank a.regs.now _ a.flags.now _ a.counter.now ram rom a.code.now c.feed-in-Long.result
    (λ s. c.feed-in-Long.ensures o (rw (q, ← c.anew-in-Long.ensures) at there) s ram rom))

pub returns-in-Short : goal.returns-in-Short
returns-in-Short c o there rest ram rom = rw c.in-Short.is refl

pub returns-in-Unlisted : goal.returns-in-Unlisted
returns-in-Unlisted c o there rest ram rom = rw c.in-Unlisted.is refl
