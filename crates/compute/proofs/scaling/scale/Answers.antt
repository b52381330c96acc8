use Rattle.operand.specs.Operand.{wide_of}
use Rattle.code.specs.declared.Operand.TheVariants.{Register}
use Rattle.compute.proofs.Registers.{scaled_by, wider_at}
use Rattle.compute.proofs.scaling.scale.Goals as goal

pub returns : goal.returns
returns c o there rest ram rom =
    let a = c.args in
    let to = wider_at a.bank a.size a.n c.of_register.result c.wide-to.result c.of_register.ensures c.wide-to.ensures in
    scaled_by a.size o a.r a.bank there rest a.regs.now a.flags.now ram rom a.how a.n c.read-v.result _ _
    c.read-v.ensures (c.scale_at.ensures (wide_of a.size (Register a.n)) a.bank to rest ram rom)
