use Rattle.treecheck.proofs.checking.+height_from.Given as goal

abbrev pub decreases-height_from : goal.decreases-height_from
decreases-height_from l = l.k
