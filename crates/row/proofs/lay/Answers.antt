use native.Mathlib.Omega.{arith}
use mathlib.Core.Path.{refl}
use Rattle.row.proofs.Lists.{all_in}
use Rattle.row.proofs.Laying.{wrote_next, laying_next}
use Rattle.row.proofs.lay.Goals as goal

pub unwrap-at-requires : goal.unwrap-at-requires
unwrap-at-requires c =
    let l = c.loop-i in
    rw (wrote_next c.args.out.now l.out _ l.i-index l.at _ c.loop-i-test.true c.requires.1 (all_in _ c.requires.0) l.invariant c.write.ensures) refl

pub overflow_add-at : goal.overflow_add-at
overflow_add-at c =
    let l = c.loop-i in
    omega (arith, (laying_next c.args.out.now l.out _ l.i-index l.at _ c.loop-i-test.true c.requires.1 (all_in _ c.requires.0) l.invariant c.unwrap-at.result c.write.new.out c.write.ensures c.unwrap-at.ensures).1.1.0)

pub loop-i-preserved : goal.loop-i-preserved
loop-i-preserved c =
    let l = c.loop-i in
    laying_next c.args.out.now l.out _ l.i-index l.at _ c.loop-i-test.true c.requires.1 (all_in _ c.requires.0) l.invariant c.unwrap-at.result c.write.new.out c.write.ensures c.unwrap-at.ensures
