use mathlib.Core.Path.{refl, ap}
use native.Mathlib.Omega.{arith}
use lib.ListN.{set}
use borrow.Author.Tests.{lt-ltb, le-ltb}
use Rattle.state.specs.inner.Field.{field_put}
use Rattle.state.proofs.Fields.{start_stays}
use Rattle.state.proofs.named.write.Goals as goal

pub returns-then-i-lt20 : goal.returns-then-i-lt20
unfolding field_put
returns-then-i-lt20 c =
    let a = c.args in
    let put = c.replaced.ensures in record { registers_after = rw (lt-ltb a.f.index 20 c.if-i-lt20.true, put.0) refl; put_within = λ i w. ap (set a.registers.now a.f.index) (rw (start_stays a.size a.f.start w) at put.1 w) }

pub returns-else-i-lt20 : goal.returns-else-i-lt20
unfolding field_put
returns-else-i-lt20 c = let a = c.args in record { registers_after = rw (le-ltb a.f.index 20 c.if-i-lt20.false) refl; put_within = λ i w. let none : ⊥ = omega (arith, i, c.if-i-lt20.false) in absurd none }
