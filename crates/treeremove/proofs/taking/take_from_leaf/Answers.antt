use Rattle.treeremove.proofs.taking.take_from_leaf.Goals as goal

pub returns : goal.returns
returns c = let e = c.count_at-c.ensures in let p = rw e at c.place_within-p.ensures.0 in (rw p at c.range_at-s.ensures, rw p at c.trim.ensures)
