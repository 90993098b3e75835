use Rattle.std.proofs.Common.{arith}
use Rattle.trees.proofs.ShrinkLaws.{node-fits, slot-fits, took-leaf, child-loose, child-unsettled, took-settled}
use Rattle.treeremove.proofs.taking.+take_below_take_node.Goals as goal

pub take_node-returns-then-level-eq1 : goal.take_node-returns-then-level-eq1
take_node-returns-then-level-eq1 t c =
    let p = c.requires in
    took-leaf _ _ _ p.le_level.0 p.le_level.1 _ _ c.slot_below-i.ensures c.if-level-eq1.true _ _ c.take_from_leaf.ensures.0 c.take_from_leaf.ensures.1

pub take_node-take_below-taken-requires : goal.take_node-take_below-taken-requires
take_node-take_below-taken-requires t c =
    let p = c.requires in
    let f = node-fits _ _ _ p.le_level.0 p.le_level.1 in
    let g = slot-fits _ _ _ p.le_level.0 p.le_level.1 _ _ c.slot_below-i.ensures in
    let o = p.le_level.0 in
    let e = c.if-level-eq1.false in
    (omega arith, (p.tree_len, ((f.0, omega arith), (omega arith, child-loose _ _ _ p.le_level.0 p.le_level.1 _ _ c.slot_below-i.ensures (omega arith)))))

pub take_node-settle-requires-clause-le_level : goal.take_node-settle-requires-clause-le_level
take_node-settle-requires-clause-le_level t c =
    let p = c.requires in
    let o = p.le_level.0 in
    let e = c.if-level-eq1.false in
    (omega arith, child-unsettled _ _ _ p.le_level.0 p.le_level.1 _ _ c.slot_below-i.ensures (omega arith) _ _ c.take_below-taken.ensures)

pub take_node-returns : goal.take_node-returns
take_node-returns t c =
    let p = c.requires in
    let o = p.le_level.0 in
    let e = c.if-level-eq1.false in
    took-settled _ _ _ p.le_level.0 p.le_level.1 _ _ c.slot_below-i.ensures (omega arith) _ _ c.take_below-taken.ensures _ _ c.settle.ensures
