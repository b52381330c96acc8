use Rattle.decode.proofs.whole_of_memory.Goals as goal

pub returns-in-Load : goal.returns-in-Load
returns-in-Load c = rw c.in-Load.is c.puts.ensures

pub returns-in-From : goal.returns-in-From
returns-in-From c = rw c.in-From.is c.puts-in-From.ensures

pub returns-in-Compute : goal.returns-in-Compute
returns-in-Compute c = rw c.in-Compute.is c.puts-in-Compute.ensures

pub returns-in-ComputeInto : goal.returns-in-ComputeInto
returns-in-ComputeInto c = rw c.in-ComputeInto.is c.puts-in-ComputeInto.ensures

pub returns-in-Blocks : goal.returns-in-Blocks
returns-in-Blocks c = rw c.in-Blocks.is c.whole.ensures
