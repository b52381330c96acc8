use Rattle.saved.proofs.Laws.{front_filled}
use Rattle.saved.proofs.save_front.Goals as goal

-- each write, from the last back to the registers
pub returns : goal.returns
returns c =
    front_filled c.args.s
    c.save_longs.new.out c.write_at.new.out c.write_at-2.new.out c.write_at-3.new.out c.write_at-4.new.out
    c.sr.ensures
    c.save_longs.ensures c.write_at.ensures c.write_at-2.ensures c.write_at-3.ensures c.write_at-4.ensures
