use Rattle.saved.proofs.zero_at.Goals as goal

pub returns : goal.returns
returns c = rw c.byte_at.ensures
