use Rattle.std.proofs.Common.{refl}
use Rattle.state.specs.State.{with_flags, with_both_flags}
use Rattle.state.specs.inner.Lent.{banked_with}
use Rattle.operand.specs.Flag.{flagged}
use Rattle.block.specs.Block.{copied}
use Rattle.block.proofs.copied.Goals as goal

pub returns : goal.returns
unfolding copied flagged with_flags with_both_flags
returns c rest =
    let s = banked_with rest c.args.regs.now c.args.bank c.args.flags.now in
    rw (c.pack.ensures, c.copy_flags.ensures, c.more.ensures, c.unpack-old.ensures, ← c.moved.ensures s, ← c.moved-2.ensures s, ← c.counted.ensures s) refl
