use mathlib.Core.Path.{sym, ◌∙◌}
use Rattle.compute.proofs.Registers.{operated_there}
use Rattle.compute.proofs.register.operate.Goals as goal

pub returns-then-stores : goal.returns-then-stores
returns-then-stores c o there rest ram rom =
    let a = c.args in
    let done = c.operate-w in
    let other = c.read-x in
    let read = c.read-v in
    let to = c.of_register-to in
    operated_there a.size o a.r to.result a.bank there a.n to.ensures rest a.regs.now a.flags.now ram rom
    a.op read.result other.result done.result _ c.write.new.registers read.ensures other.ensures
    (sym c.stores.ensures ∙ c.if-stores.true) done.ensures.0 done.ensures.1 c.write.ensures.put_within
