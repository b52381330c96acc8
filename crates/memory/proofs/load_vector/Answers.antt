-- `memory::load_vector` meets its contract.
use Rattle.memory.specs.Access.{load_of}
use Rattle.memory.proofs.load_vector.Goals as goal

pub returns : goal.returns
unfolding load_of
returns c = c.load_bytes.ensures
