use Rattle.trees.proofs.ShrinkTopLaws.{top-loose, top-number, top-stays, top-first, top-empty, top-lowered}
use native.Mathlib.Omega.{arith}
use borrow.Author.Rules.{rules}
use Rattle.treeremove.proofs.root.remove_root.Goals as goal

pub take_node-requires : goal.take_node-requires
take_node-requires c =
    let p = c.requires in
    record { tree_len = p.tree_len; le_level = (p.h_value.1, top-loose _ _ _ p.lawful_tree p.h_value.0 p.h_value.1 c.root_at-root.ensures) }

pub count_at-c-requires : goal.count_at-c-requires
count_at-c-requires c =
    let p = c.requires in
    record { tree_len = search rules; n_bound = top-number _ _ _ p.lawful_tree p.h_value.0 p.h_value.1 c.root_at-root.ensures }

pub returns-then-c-gt0 : goal.returns-then-c-gt0
returns-then-c-gt0 c =
    let p = c.requires in
    let e = c.count_at-c.ensures in
    let t = c.if-c-gt0.true in
    let it = top-stays _ _ _ p.lawful_tree p.h_value.0 p.h_value.1 c.root_at-root.ensures _ _ _ c.take_node.ensures (search rules) (omega arith) in
    record { holding = it.0; others_stay = it.1 }

pub drop_root-requires : goal.drop_root-requires
drop_root-requires c =
    let p = c.requires in
    record { tree_len = search rules; n_bound = top-number _ _ _ p.lawful_tree p.h_value.0 p.h_value.1 c.root_at-root.ensures }

pub returns-then-h-eq1 : goal.returns-then-h-eq1
returns-then-h-eq1 c =
    let p = c.requires in
    let e = c.count_at-c.ensures in
    let t = c.if-c-gt0.false in
    let it = top-empty _ _ _ p.lawful_tree p.h_value.0 p.h_value.1 c.root_at-root.ensures _ _ _ c.take_node.ensures (omega arith) _ (search rules) c.if-h-eq1.true c.drop_root.ensures in
    record { holding = it.0; others_stay = it.1 }

pub child_at-first-requires : goal.child_at-first-requires
child_at-first-requires c =
    let p = c.requires in
    record { tree_len = search rules; n_bound = (top-number _ _ _ p.lawful_tree p.h_value.0 p.h_value.1 c.root_at-root.ensures, omega arith) }

pub overflow_cast-first : goal.overflow_cast-first
overflow_cast-first c = let p = c.requires in
    let e = c.child_at-first.ensures in
    let f = top-first _ _ _ p.lawful_tree p.h_value.0 p.h_value.1 c.root_at-root.ensures _ _ _ c.take_node.ensures c.if-h-eq1.false in
    search rules

pub drop_root-requires-2 : goal.drop_root-requires-2
drop_root-requires-2 c =
    let p = c.requires in
    record { tree_len = search rules; n_bound = top-number _ _ _ p.lawful_tree p.h_value.0 p.h_value.1 c.root_at-root.ensures }

pub returns : goal.returns
returns c =
    let p = c.requires in
    let e = c.count_at-c.ensures in
    let t = c.if-c-gt0.false in
    let it = top-lowered _ _ _ p.lawful_tree p.h_value.0 p.h_value.1 c.root_at-root.ensures _ _ _ c.take_node.ensures (omega arith) _ (search rules) c.if-h-eq1.false _ c.child_at-first.ensures c.drop_root-2.ensures in
    record { holding = it.0; others_stay = it.1 }
