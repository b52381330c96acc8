use mathlib.Core.Path.{◌≡◌, refl, sym, ◌∙◌}
use Prim.Native.Nat.{◌+◌}
use native.Mathlib.Omega.{arith}
use Rattle.little.specs.Bytes.{value_of}
use Rattle.code.proofs.Judge.{value_1, value_2, value_3, value_4}
use Rattle.number.proofs.read.Goals as goal

pub returns-in-0 : goal.returns-in-0
unfolding value_of
returns-in-0 c = rw c.in-0.is refl

pub returns-in-1 : goal.returns-in-1
returns-in-1 c = rw c.in-1.is (c.byte.ensures.0 ∙ sym (value_1 c.args.code.now c.args.at (omega arith)))

pub returns-in-2 : goal.returns-in-2
returns-in-2 c = rw c.in-2.is (c.word.ensures.0 ∙ sym (value_2 c.args.code.now c.args.at (omega arith)))

pub returns-in-3 : goal.returns-in-3
returns-in-3 c = rw c.in-3.is (omega (arith, value_3 c.args.code.now c.args.at (omega arith), c.word-in-3.ensures.0, c.byte-in-3.ensures.0))

pub returns-in_default : goal.returns-in_default
returns-in_default c = let e : c.args.n ≡ 4 = omega arith in let f : c.args.at + 2 + 1 ≡ c.args.at + 3 = omega arith in rw e (omega (arith, value_4 c.args.code.now c.args.at (omega arith), c.word-in_default.ensures.0, rw f at c.word-in_default-2.ensures.0))
