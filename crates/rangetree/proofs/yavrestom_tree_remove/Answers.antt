use Rattle.rangetree.proofs.ExportLaws.{place-refused, place-given}
use Rattle.rangetree.proofs.yavrestom_tree_remove.Goals as goal

pub returns-then-values-ne-VALUES : goal.returns-then-values-ne-VALUES
returns-then-values-ne-VALUES c = place-refused _ _ _ c.if-values-ne-VALUES.true

pub returns : goal.returns
returns c = place-given _ _ _ c.if-values-ne-VALUES.false _ c.remove.ensures.promised _ _ (rw c.outcome.ensures at c.give.ensures)
