use mathlib.Core.Path.{sym}
use lib.ListN.{get_or-eq_default}
use Rattle.saved.proofs.byte_at.Goals as goal

pub returns-else-i-bytes : goal.returns-else-i-bytes
returns-else-i-bytes c = sym (get_or-eq_default c.args.bytes.now 0 c.if-i-bytes.false)
