use Rattle.text.proofs.Line.+hex.Given as goal

abbrev pub decreases-hex : goal.decreases-hex
decreases-hex l = l.places
