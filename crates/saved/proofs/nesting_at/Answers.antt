use Rattle.saved.proofs.Laws.{nesting_made}
use Rattle.saved.proofs.nesting_at.Goals as goal

pub returns : goal.returns
returns c = nesting_made c.args.bytes.now c.byte_at.ensures c.byte_at-2.ensures
