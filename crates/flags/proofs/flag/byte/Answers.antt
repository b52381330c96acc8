use Rattle.flags.specs.Flag.{byte_of}
use Rattle.flags.proofs.flag.byte.Goals as goal

pub returns : goal.returns
unfolding byte_of
returns c = simp (
  c.weight.ensures.value,
  c.weight-2.ensures.value,
  c.weight-3.ensures.value,
  c.weight-4.ensures.value,
  c.weight-5.ensures.value,
  c.weight-6.ensures.value,
)
