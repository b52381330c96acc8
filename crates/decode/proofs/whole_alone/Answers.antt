use Rattle.decode.proofs.whole_alone.Goals as goal

pub returns-in-Controls : goal.returns-in-Controls
returns-in-Controls c = rw c.in-Controls.is c.whole.ensures

pub returns-in-Stacks : goal.returns-in-Stacks
returns-in-Stacks c = rw c.in-Stacks.is c.whole-in-Stacks.ensures

pub returns-in-Sets : goal.returns-in-Sets
returns-in-Sets c = rw c.in-Sets.is c.whole-in-Sets.ensures

pub returns-in-Interrupts : goal.returns-in-Interrupts
returns-in-Interrupts c = rw c.in-Interrupts.is c.whole-in-Interrupts.ensures
