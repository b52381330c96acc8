use mathlib.Core.Path.{refl}
use lib.Bits.{and_mask}
use Rattle.little.specs.Width.{bits_of}
use Rattle.state.specs.Register.{get_bits}
use Rattle.state.specs.inner.Field.{field_in}
use borrow.Author.Tests.{lt-ltb, le-ltb}
use Rattle.state.proofs.named.read.Goals as goal

pub returns-then-i-lt20 : goal.returns-then-i-lt20
unfolding field_in get_bits
returns-then-i-lt20 c = let a = c.args in rw (lt-ltb a.f.index 20 c.if-i-lt20.true, c.ones.ensures) (and_mask _ (bits_of a.size))

pub returns : goal.returns
unfolding field_in
returns c = rw (le-ltb c.args.f.index 20 c.if-i-lt20.false) refl
