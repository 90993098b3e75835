use Rattle.trees.proofs.LineLaws.{ranged}
use native.Mathlib.Omega.{arith}
use Rattle.treeremove.proofs.mending.set_range.Goals as goal

pub returns : goal.returns
returns c = let p = c.requires.n_bound in
    let e = c.count_at-c.ensures in
    ranged _ _ _ _ _ _ _ _ _ e (omega arith) c.placed_line-row.ensures c.put.ensures
