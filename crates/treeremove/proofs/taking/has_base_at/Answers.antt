use Rattle.trees.proofs.TakeLaws.{found-mid, found-last}
use borrow.Author.Tests.{le-ltb}
use mathlib.Core.Path.{◌∙◌}
use native.Mathlib.Omega.{arith}
use Rattle.treeremove.proofs.taking.has_base_at.Goals as goal

pub returns-then-i-count_at : goal.returns-then-i-count_at
returns-then-i-count_at c = let e = c.count_at.ensures in found-mid _ _ _ _ (omega arith) _ c.range_at.ensures

pub returns-else-i-count_at : goal.returns-else-i-count_at
returns-else-i-count_at c = let e = c.count_at.ensures in le-ltb c.args.i c.count_at.result c.if-i-count_at.false ∙ found-last _ _ _ _ (omega arith)
