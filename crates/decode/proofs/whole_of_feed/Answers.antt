use Rattle.decode.proofs.whole_of_feed.Goals as goal

pub returns-in-Scaled : goal.returns-in-Scaled
returns-in-Scaled c = rw c.in-Scaled.is c.puts.ensures

pub returns-in-ScaledWith : goal.returns-in-ScaledWith
returns-in-ScaledWith c = rw c.in-ScaledWith.is c.puts-in-ScaledWith.ensures

pub returns-in-Cycled : goal.returns-in-Cycled
returns-in-Cycled c = rw c.in-Cycled.is c.puts-in-Cycled.ensures
