use Rattle.trees.proofs.MendLaws.{mend-kids, mend-off, mend-few, mend-even, mend-merged, mend-shared}
use native.Mathlib.Omega.{arith}
use borrow.Author.Rules.{rules}
use Rattle.treeremove.proofs.mending.mend.Goals as goal

pub count_at-cx-requires : goal.count_at-cx-requires
count_at-cx-requires c = record { tree_len = c.requires.tree_len; n_bound = (mend-kids _ _ _ _ c.requires.le_level.0 c.requires.uneven _ _ c.child_at-x.ensures c.child_at-y.ensures).0 }

pub count_at-cy-requires : goal.count_at-cy-requires
count_at-cy-requires c = record { tree_len = c.requires.tree_len; n_bound = (mend-kids _ _ _ _ c.requires.le_level.0 c.requires.uneven _ _ c.child_at-x.ensures c.child_at-y.ensures).1.0 }

pub returns-then-not-thin : goal.returns-then-not-thin
returns-then-not-thin c = mend-even _ _ _ _ c.requires.le_level.0 c.requires.uneven _ _ c.child_at-x.ensures c.child_at-y.ensures _ _ c.count_at-cx.ensures c.count_at-cy.ensures _ c.thin.ensures c.if-not-thin.true

pub joined_line-line-requires : goal.joined_line-line-requires
joined_line-line-requires c =
    let k = mend-kids _ _ _ _ c.requires.le_level.0 c.requires.uneven _ _ c.child_at-x.ensures c.child_at-y.ensures in
    let e = c.count_at-cx.ensures in
    let d = c.count_at-cy.ensures in
    let f = mend-few _ _ _ _ c.requires.le_level.0 c.requires.uneven _ _ c.child_at-x.ensures c.child_at-y.ensures _ _ c.count_at-cx.ensures c.count_at-cy.ensures _ c.thin.ensures c.if-not-thin.false in
    record { tree_len = c.requires.tree_len; x_bound = (k.0, (k.1.0, (e, (omega arith, omega arith)))); y_bound = omega arith }

pub overflow_add-cx : goal.overflow_add-cx
overflow_add-cx c =
    let f = mend-few _ _ _ _ c.requires.le_level.0 c.requires.uneven _ _ c.child_at-x.ensures c.child_at-y.ensures _ _ c.count_at-cx.ensures c.count_at-cy.ensures _ c.thin.ensures c.if-not-thin.false in
    search rules

pub merge-requires : goal.merge-requires
merge-requires c =
    let k = mend-kids _ _ _ _ c.requires.le_level.0 c.requires.uneven _ _ c.child_at-x.ensures c.child_at-y.ensures in
    let e = c.count_at-cx.ensures in
    let d = c.count_at-cy.ensures in
    let f = mend-few _ _ _ _ c.requires.le_level.0 c.requires.uneven _ _ c.child_at-x.ensures c.child_at-y.ensures _ _ c.count_at-cx.ensures c.count_at-cy.ensures _ c.thin.ensures c.if-not-thin.false in
    let q = c.requires.le_level in
    record {
      tree_len = c.requires.tree_len;
      n_bound = (q.1.0, (k.0, (k.1.0, (omega arith, (omega arith, omega arith)))));
      k_value = (omega arith, omega arith);
      joined_line = rw c.range_at-s.ensures at c.joined_line-line.ensures;
      apart = mend-off _ _ _ _ c.requires.le_level.0 c.requires.uneven _ _ c.child_at-x.ensures c.child_at-y.ensures;
    }

pub returns-then-cx-cy-lt4 : goal.returns-then-cx-cy-lt4
returns-then-cx-cy-lt4 c = mend-merged _ _ _ _ c.requires.le_level.0 c.requires.uneven _ _ c.child_at-x.ensures c.child_at-y.ensures _ _ c.count_at-cx.ensures c.count_at-cy.ensures _ c.thin.ensures _ c.if-not-thin.false c.if-cx-cy-lt4.true c.merge.ensures

pub overflow_add-cx-2 : goal.overflow_add-cx-2
overflow_add-cx-2 c =
    let f = mend-few _ _ _ _ c.requires.le_level.0 c.requires.uneven _ _ c.child_at-x.ensures c.child_at-y.ensures _ _ c.count_at-cx.ensures c.count_at-cy.ensures _ c.thin.ensures c.if-not-thin.false in
    search rules

pub share-requires : goal.share-requires
share-requires c =
    let k = mend-kids _ _ _ _ c.requires.le_level.0 c.requires.uneven _ _ c.child_at-x.ensures c.child_at-y.ensures in
    let e = c.count_at-cx.ensures in
    let d = c.count_at-cy.ensures in
    let f = mend-few _ _ _ _ c.requires.le_level.0 c.requires.uneven _ _ c.child_at-x.ensures c.child_at-y.ensures _ _ c.count_at-cx.ensures c.count_at-cy.ensures _ c.thin.ensures c.if-not-thin.false in
    let q = c.requires.le_level in
    record {
      tree_len = c.requires.tree_len;
      n_bound = (q.1.0, (k.0, (k.1.0, omega arith)));
      k_value = (omega arith, (omega arith, omega arith));
      joined_line = rw c.range_at-s.ensures at c.joined_line-line.ensures;
      apart = mend-off _ _ _ _ c.requires.le_level.0 c.requires.uneven _ _ c.child_at-x.ensures c.child_at-y.ensures;
    }

pub returns : goal.returns
returns c = mend-shared _ _ _ _ c.requires.le_level.0 c.requires.uneven _ _ c.child_at-x.ensures c.child_at-y.ensures _ _ c.count_at-cx.ensures c.count_at-cy.ensures _ c.thin.ensures _ c.if-not-thin.false c.if-cx-cy-lt4.false c.share.ensures
