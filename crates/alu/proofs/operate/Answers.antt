use mathlib.Core.Path.{refl}
use Rattle.alu.specs.Operation.{operated}
use Rattle.alu.proofs.operate.Goals as goal

pub returns-in-Add : goal.returns-in-Add
unfolding operated
returns-in-Add c = rw (c.settled.ensures.0, c.settled.ensures.1, c.add.ensures, c.in-Add.is) (refl, refl)

pub returns-in-Adc : goal.returns-in-Adc
unfolding operated
returns-in-Adc c = rw (c.settled-in-Adc.ensures.0, c.settled-in-Adc.ensures.1, c.add-in-Adc.ensures, c.unpack-old.ensures, c.in-Adc.is) (refl, refl)

pub returns-in-Sub : goal.returns-in-Sub
unfolding operated
returns-in-Sub c = rw (c.settled-in-Sub.ensures.0, c.settled-in-Sub.ensures.1, c.sub.ensures, c.in-Sub.is) (refl, refl)

pub returns-in-Sbc : goal.returns-in-Sbc
unfolding operated
returns-in-Sbc c = rw (c.settled-in-Sbc.ensures.0, c.settled-in-Sbc.ensures.1, c.sub-in-Sbc.ensures, c.unpack-old.ensures, c.in-Sbc.is) (refl, refl)

pub returns-in-And : goal.returns-in-And
unfolding operated
returns-in-And c = rw (c.settled-in-And.ensures.0, c.settled-in-And.ensures.1, c.and.ensures, c.in-And.is) (refl, refl)

pub returns-in-Xor : goal.returns-in-Xor
unfolding operated
returns-in-Xor c = rw (c.settled-in-Xor.ensures.0, c.settled-in-Xor.ensures.1, c.xor.ensures, c.in-Xor.is) (refl, refl)

pub returns-in-Or : goal.returns-in-Or
unfolding operated
returns-in-Or c = rw (c.settled-in-Or.ensures.0, c.settled-in-Or.ensures.1, c.or.ensures, c.in-Or.is) (refl, refl)

pub returns-in-Cp : goal.returns-in-Cp
unfolding operated
returns-in-Cp c = rw (c.settled-in-Cp.ensures.0, c.settled-in-Cp.ensures.1, c.sub-in-Cp.ensures, c.in-Cp.is) (refl, refl)
