use Rattle.trees.proofs.WidenLaws.{widened-fits, widened-over}
use native.Mathlib.Omega.{arith}
use mathlib.Core.Path.{refl}
use Rattle.treeinsert.proofs.widen.Goals as goal

pub returns-then-count-lt4 : goal.returns-then-count-lt4
returns-then-count-lt4 c = widened-fits _ _ _ _ _ _ _ _ c.opened_line-line.ensures _ _ _ c.count_at-count.ensures c.if-count-lt4.true refl c.put.ensures

pub unused-m-requires : goal.unused-m-requires
unused-m-requires c = let e = c.count_at-count.ensures in let p = c.requires.n_bound.1.1 in let l = c.requires.tree_len in record { tree_len = l; bound = c.requires.bound (omega arith) }

pub returns : goal.returns
returns c = let e = c.count_at-count.ensures in widened-over _ _ _ _ _ _ _ _ c.opened_line-line.ensures _ _ _ _ (omega arith) refl refl c.unused-m.ensures.0 c.unused-m.ensures.1.0 c.unused-m.ensures.1.1.1 c.put-2.ensures c.put-3.ensures
