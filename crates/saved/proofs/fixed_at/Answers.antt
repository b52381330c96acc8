use Rattle.saved.proofs.fixed_at.Goals as goal

pub returns : goal.returns
returns c =
    rw (
      c.ones_in-ones.ensures,
      c.read_at.ensures,
      c.zero_at.ensures,
      c.zero_at-2.ensures,
    )
