use Rattle.trees.proofs.ShrinkLaws.{settle-fits, settle-reads, settle-mends, none-ranged, settled-found, settled-not}
use native.Mathlib.Omega.{arith}
use borrow.Author.Rules.{rules}
use Rattle.treeremove.proofs.taking.settle.Goals as goal

pub count_at-c-requires : goal.count_at-c-requires
count_at-c-requires c = let p = c.requires in
    record { tree_len = p.tree_len; n_bound = (settle-fits _ _ _ _ p.le_level.0 p.le_level.1).0 }

pub place_within-j-requires : goal.place_within-j-requires
place_within-j-requires c = let p = c.requires in
    let f = settle-fits _ _ _ _ p.le_level.0 p.le_level.1 in
    let e = c.count_at-c.ensures in
    omega arith

pub has_base_at-requires : goal.has_base_at-requires
has_base_at-requires c = let p = c.requires in
    let f = settle-fits _ _ _ _ p.le_level.0 p.le_level.1 in
    record { tree_len = p.tree_len; n_bound = (f.0, f.1.1.1) }

pub range_at-r-requires : goal.range_at-r-requires
range_at-r-requires c = let p = c.requires in
    record { tree_len = p.tree_len; n_bound = settle-reads _ _ _ _ p.le_level.0 p.le_level.1 _ _ c.has_base_at.ensures c.if-has_base_at.true }

pub set_range-requires : goal.set_range-requires
set_range-requires c = let p = c.requires in
    let f = settle-fits _ _ _ _ p.le_level.0 p.le_level.1 in
    record { tree_len = p.tree_len; n_bound = (f.0, f.1.1.1) }

pub mend-requires : goal.mend-requires
mend-requires c = let p = c.requires in
    let m = settle-mends _ _ _ _ p.le_level.0 p.le_level.1 _ (rw c.count_at-c.ensures at c.place_within-j.ensures.0) _ _ c.set_range.ensures in
    record { tree_len = search rules; le_level = m.0; uneven = m.1 }

pub returns-then-has_base_at : goal.returns-then-has_base_at
returns-then-has_base_at c = let p = c.requires in
    settled-found _ _ _ _ p.le_level.0 p.le_level.1 _ (rw c.count_at-c.ensures at c.place_within-j.ensures.0) _ _ _ c.has_base_at.ensures _ c.if-has_base_at.true _ c.range_at-r.ensures _ c.set_range.ensures c.mend.ensures

pub mend-requires-2 : goal.mend-requires-2
mend-requires-2 c = let p = c.requires in
    let m = settle-mends _ _ _ _ p.le_level.0 p.le_level.1 _ (rw c.count_at-c.ensures at c.place_within-j.ensures.0) _ _ (none-ranged _ _ _ _ p.le_level.0 p.le_level.1) in
    record { tree_len = c.requires.tree_len; le_level = m.0; uneven = m.1 }

pub returns : goal.returns
returns c = let p = c.requires in
    settled-not _ _ _ _ p.le_level.0 p.le_level.1 _ (rw c.count_at-c.ensures at c.place_within-j.ensures.0) _ _ _ c.has_base_at.ensures _ c.if-has_base_at.false c.mend-2.ensures
