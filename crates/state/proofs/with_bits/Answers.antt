use mathlib.Core.Path.{refl, sym}
use native.Mathlib.Omega.{arith}
use Rattle.state.specs.Register.{set_bits}
use Rattle.state.proofs.Bits.{set_bottom, set_top, set_whole}
use Rattle.state.proofs.with_bits.Goals as goal

pub returns-in-Byte0 : goal.returns-in-Byte0
returns-in-Byte0 c = let a = c.args in rw c.in-Byte0.is (sym (set_bottom 8 a.x a.v))

pub returns-in-Byte1 : goal.returns-in-Byte1
unfolding set_bits
returns-in-Byte1 c = rw c.in-Byte1.is refl

pub returns-in-Byte2 : goal.returns-in-Byte2
unfolding set_bits
returns-in-Byte2 c = rw c.in-Byte2.is refl

pub returns-in-Byte3 : goal.returns-in-Byte3
returns-in-Byte3 c = let a = c.args in rw c.in-Byte3.is (sym (set_top 24 8 a.x a.v (omega arith)))

pub returns-in-Half0 : goal.returns-in-Half0
returns-in-Half0 c = let a = c.args in rw c.in-Half0.is (sym (set_bottom 16 a.x a.v))

pub returns-in-Half1 : goal.returns-in-Half1
returns-in-Half1 c = let a = c.args in rw c.in-Half1.is (sym (set_top 16 16 a.x a.v (omega arith)))

pub returns-in-Whole : goal.returns-in-Whole
returns-in-Whole c = let a = c.args in rw c.in-Whole.is (sym (set_whole a.x a.v (omega arith) (omega arith)))
