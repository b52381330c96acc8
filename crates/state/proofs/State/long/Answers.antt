use mathlib.Core.Path.{refl, sym}
use native.Mathlib.Omega.{arith}
use lib.ListN.{get_or-eq_default}
use Rattle.state.specs.State.{long_of}
use Rattle.state.proofs.Sound.{sound}
use Rattle.state.proofs.State.long.Goals as goal

pub returns-then-i-lt20 : goal.returns-then-i-lt20
unfolding long_of
returns-then-i-lt20 c = refl

pub returns-else-i-lt20 : goal.returns-else-i-lt20
unfolding long_of
returns-else-i-lt20 c =
    let s = c.args.self in
    sym (get_or-eq_default s.registers 0 (omega (arith, (sound s c.well_formed.0).twenty, c.if-i-lt20.false)))
