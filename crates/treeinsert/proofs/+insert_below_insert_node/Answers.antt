use Rattle.std.proofs.Common.{arith, refl}
use Rattle.trees.proofs.GrowLaws.{grew-below, ready-slot, slot-few, child-ready, done-whole, widen-can, widen-take, done-widened}
use Rattle.treeinsert.proofs.+insert_below_insert_node.Goals as goal

pub insert_below-insert_node-requires : goal.insert_below-insert_node-requires
insert_below-insert_node-requires t c = (omega arith, (c.requires.tree_len, rw c.child_at-c.ensures c.requires.ready))

pub insert_node-returns-then-level-eq0 : goal.insert_node-returns-then-level-eq0
insert_node-returns-then-level-eq0 t c = grew-below _ _ _ _ _ c.if-level-eq0.true refl

pub insert_node-insert_below-requires : goal.insert_node-insert_below-requires
insert_node-insert_below-requires t c =
    let k = ready-slot _ _ _ _ (omega arith) c.requires.ready in
    (omega arith, (c.requires.tree_len, ((k.0, slot-few _ _ _ _ (omega arith) c.requires.ready _ c.insert_slot-i.ensures), child-ready _ _ _ _ (omega arith) c.requires.ready _ c.insert_slot-i.ensures)))

pub insert_node-returns-in_err-up : goal.insert_node-returns-in_err-up
insert_node-returns-in_err-up t c =
    rw c.from_residual.ensures (done-whole _ _ _ _ (omega arith) c.requires.ready _ c.insert_slot-i.ensures _ _ c.insert_below.ensures c.in_err-up.was)

pub insert_node-widen-requires-clause-n_bound : goal.insert_node-widen-requires-clause-n_bound
insert_node-widen-requires-clause-n_bound t c =
    widen-can _ _ _ _ (omega arith) c.requires.ready _ c.insert_slot-i.ensures _ _ c.insert_below.ensures

pub insert_node-widen-requires-clause-bound : goal.insert_node-widen-requires-clause-bound
insert_node-widen-requires-clause-bound t c =
    widen-take _ _ _ _ (omega arith) c.requires.ready _ c.insert_slot-i.ensures _ _ c.insert_below.ensures _ c.in_ok-up.was

pub insert_node-returns : goal.insert_node-returns
insert_node-returns t c =
    done-widened _ _ _ _ (omega arith) c.requires.ready _ c.insert_slot-i.ensures _ _ c.insert_below.ensures _ c.in_ok-up.was _ _ c.widen.ensures
