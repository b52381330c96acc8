use mathlib.Core.Path.{refl, sym}
use native.Mathlib.Omega.{arith}
use Rattle.state.specs.Register.{get_bits}
use Rattle.state.proofs.Bits.{get_bottom, get_whole}
use Rattle.state.proofs.bits_of.Goals as goal

pub returns-in-Byte0 : goal.returns-in-Byte0
returns-in-Byte0 c = rw c.in-Byte0.is (sym (get_bottom 8 c.args.x))

pub returns-in-Byte1 : goal.returns-in-Byte1
unfolding get_bits
returns-in-Byte1 c = rw c.in-Byte1.is refl

pub returns-in-Byte2 : goal.returns-in-Byte2
unfolding get_bits
returns-in-Byte2 c = rw c.in-Byte2.is refl

pub returns-in-Byte3 : goal.returns-in-Byte3
unfolding get_bits
returns-in-Byte3 c = rw c.in-Byte3.is refl

pub returns-in-Half0 : goal.returns-in-Half0
returns-in-Half0 c = rw c.in-Half0.is (sym (get_bottom 16 c.args.x))

pub returns-in-Half1 : goal.returns-in-Half1
unfolding get_bits
returns-in-Half1 c = rw c.in-Half1.is refl

pub returns-in-Whole : goal.returns-in-Whole
returns-in-Whole c = rw c.in-Whole.is (sym (get_whole c.args.x (omega arith)))
