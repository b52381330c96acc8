use Prim.Native.Nat.{◌%◌}
use mathlib.Core.Path.{◌≡◌, refl}
use native.Mathlib.Omega.{arith}
use Rattle.code.specs.inner.Parts.{size_of}
use Rattle.number.proofs.size_of.Goals as goal

pub returns-in-0 : goal.returns-in-0
unfolding size_of
returns-in-0 c = rw c.in-0.is refl

pub returns-in-1 : goal.returns-in-1
unfolding size_of
returns-in-1 c = rw c.in-1.is refl

pub returns-in-2 : goal.returns-in-2
unfolding size_of
returns-in-2 c = rw c.in-2.is refl

pub returns-in_default : goal.returns-in_default
unfolding size_of
returns-in_default c = let e : c.args.digit % 4 ≡ 3 = omega (arith, c.in_default.in_default-own.rest) in rw e refl
