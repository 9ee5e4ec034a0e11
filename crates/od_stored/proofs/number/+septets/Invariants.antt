use Rattle.od_stored.proofs.number.+septets.Given as goal

abbrev pub decreases-septets : goal.decreases-septets
decreases-septets l = l.further
