use mathlib.Core.Path.{◌∙◌}
use Prim.Native.Nat.{◌+◌}
use native.Mathlib.Nat.{mod-le}
use native.Mathlib.Omega.{arith}
use Rattle.little.specs.Width.{bits_of}
use Rattle.feed.proofs.Wraps.{minc_end, minc_on}
use Rattle.feed.proofs.cycle.minc.Goals as goal

pub overflow_sub-result : goal.overflow_sub-result
overflow_sub-result c = omega (arith, mod-le c.low-x.result (c.args.last + c.args.step))

pub returns-then-x-end : goal.returns-then-x-end
returns-then-x-end c =
    let a = c.args in
    minc_end (bits_of a.size) a.step a.last a.a _ c.low-x.ensures.value c.if-x-end.true

pub returns : goal.returns
returns c =
    let a = c.args in
    c.low.ensures.value ∙ minc_on (bits_of a.size) a.step a.last a.a _ c.low-x.ensures.value c.if-x-end.false
