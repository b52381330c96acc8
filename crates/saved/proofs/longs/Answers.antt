use Rattle.std.proofs.Common.{◌≡◌, refl, sym, ◌∙◌, arith}
use Rattle.std.proofs.Math.ListN.{length-set}
use Rattle.std.proofs.Math.Seq.{take_all}
use Rattle.saved.specs.Record.{longs_at}
use Rattle.saved.proofs.Numbers.{longs_more}
use Rattle.saved.proofs.longs.Goals as goal

pub loop-i-init : goal.loop-i-init
unfolding longs_at
loop-i-init c = record { long = refl; filled = refl }

pub loop-i-preserved : goal.loop-i-preserved
loop-i-preserved c =
    let l = c.loop-i in
    record {
      long = simp length-set l.invariant.long;
      filled = longs_more l.registers c.args.bytes.now l.i c.read_at.result (omega arith) c.read_at.ensures l.invariant.filled;
    }

pub returns : goal.returns
returns c =
    let e : c.loop-i.i ≡ 20 = omega arith in
    sym (take_all 20 c.loop-i.registers (omega arith)) ∙ rw e at c.loop-i.invariant.filled
