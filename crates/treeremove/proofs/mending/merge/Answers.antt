use Rattle.trees.proofs.LineLaws.{merged}
use native.Mathlib.Omega.{arith}
use Rattle.treeremove.proofs.mending.merge.Goals as goal

pub returns : goal.returns
returns c =
    let p = c.requires in
    let f = p.n_bound.1.1.1.1 in
    let e = c.count_at-c.ensures in
    merged _ _ _ _ _ _ p.apart.0 p.apart.1.0 p.apart.1.1 _ _ p.joined_line _ _ _ _ _ _ _ p.k_value.0 p.k_value.1 e (omega arith) (omega arith)
    c.closed_line-rest.ensures c.put.ensures c.clear.ensures c.put-2.ensures
