use mathlib.Core.Path.{refl}
use Rattle.feed.proofs.scale.scaled.Goals as goal

pub returns-in-Mul : goal.returns-in-Mul
returns-in-Mul c = rw (c.settled.ensures.0, c.settled.ensures.1, c.keeping.ensures, c.mul.ensures, c.unpack.ensures, c.in-Mul.is) (refl, refl)

pub returns-in-Muls : goal.returns-in-Muls
returns-in-Muls c = rw (c.settled-in-Muls.ensures.0, c.settled-in-Muls.ensures.1, c.keeping-in-Muls.ensures, c.muls.ensures, c.unpack-in-Muls.ensures, c.in-Muls.is) (refl, refl)

pub returns-in-Div : goal.returns-in-Div
returns-in-Div c = rw (c.settled-in-Div.ensures.0, c.settled-in-Div.ensures.1, c.divided_of.ensures, c.div.ensures, c.unpack-in-Div.ensures, c.in-Div.is) (refl, refl)

pub returns-in-Divs : goal.returns-in-Divs
returns-in-Divs c = rw (c.settled-in-Divs.ensures.0, c.settled-in-Divs.ensures.1, c.divided_of-in-Divs.ensures, c.divs.ensures, c.unpack-in-Divs.ensures, c.in-Divs.is) (refl, refl)
