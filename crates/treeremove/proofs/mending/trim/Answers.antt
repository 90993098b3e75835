use Rattle.trees.proofs.LineLaws.{trimmed}
use native.Mathlib.Omega.{arith}
use Rattle.treeremove.proofs.mending.trim.Goals as goal

pub returns : goal.returns
returns c = let p = c.requires.n_bound in
    let e = c.count_at-c.ensures in
    trimmed _ _ _ _ _ _ _ _ e (omega arith) (omega arith) c.closed_line-rest.ensures c.put.ensures
