use native.Mathlib.Omega.{arith}
use borrow.Author.Tests.{lt-ltb, le-ltb}
use Rattle.code.specs.inner.Parts.{register_size}
use Rattle.registers.proofs.size_by.Goals as goal

pub returns-then-b-ge224 : goal.returns-then-b-ge224
unfolding register_size
returns-then-b-ge224 c = simp (le-ltb c.args.b 0xD0 (omega arith), le-ltb _ _ c.if-b-ge224.true)

pub returns-then-b-ge208 : goal.returns-then-b-ge208
unfolding register_size
returns-then-b-ge208 c = simp (le-ltb _ _ c.if-b-ge208.true, lt-ltb _ _ c.if-b-ge224.false)

pub returns : goal.returns
unfolding register_size
returns c = simp (lt-ltb _ _ c.if-b-ge208.false)
