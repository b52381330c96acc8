use native.Mathlib.Omega.{arith}
use Rattle.code.proofs.FirstRows.{begins_odd, begins_named, begins_none}
use Rattle.registers.proofs.begins.Goals as goal

pub returns-then-b-eq1 : goal.returns-then-b-eq1
returns-then-b-eq1 c = begins_odd _ (omega arith) c.if-b-eq1.true

pub returns-in-199 : goal.returns-in-199
returns-in-199 c = begins_named _ c.in-199.is

pub returns-in_default : goal.returns-in_default
returns-in_default c = begins_none _ (omega arith) c.if-b-eq1.false c.in_default.in_default-own.rest
