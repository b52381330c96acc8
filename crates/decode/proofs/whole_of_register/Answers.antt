use Rattle.decode.proofs.whole_of_register.Goals as goal

pub returns-in-Number : goal.returns-in-Number
returns-in-Number c = rw c.in-Number.is c.puts.ensures

pub returns-in-From : goal.returns-in-From
returns-in-From c = rw c.in-From.is c.puts-in-From.ensures

pub returns-in-Load : goal.returns-in-Load
returns-in-Load c = rw c.in-Load.is c.puts-in-Load.ensures

pub returns-in-Compute : goal.returns-in-Compute
returns-in-Compute c = rw c.in-Compute.is c.puts-in-Compute.ensures

pub returns-in-With : goal.returns-in-With
returns-in-With c = rw c.in-With.is c.puts-in-With.ensures

pub returns-in-Changed : goal.returns-in-Changed
returns-in-Changed c = rw c.in-Changed.is c.puts-in-Changed.ensures

pub returns-in-Rest : goal.returns-in-Rest
returns-in-Rest c = rw c.in-Rest.is c.whole_rest.ensures
