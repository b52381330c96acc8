use Rattle.saved.proofs.Laws.{state_made}
use Rattle.saved.proofs.state_at.Goals as goal

pub returns : goal.returns
returns c =
    let bytes = c.args.bytes.now in
    rw (c.bank_in.ensures, c.level_in.ensures, c.flags_in.ensures)
    (state_made
    bytes
    c.longs-registers.ensures
    c.read_at-counter.ensures
    c.read_at-sr.ensures
    c.byte_at.ensures
    c.byte_at-marks.ensures
    c.nesting_at.ensures)
