use Rattle.alu.proofs.shifter.+places.Given as goal

abbrev pub decreases-places : goal.decreases-places
decreases-places l = l.num
