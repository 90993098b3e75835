use Rattle.kernel.proofs.ExportLaws.{exported, no_place}
use Rattle.kernel.proofs.yavrestom_unmap.Goals as goal

pub returns-then-values-ne-VALUES : goal.returns-then-values-ne-VALUES
returns-then-values-ne-VALUES c = no_place _ _ _ c.if-values-ne-VALUES.true

pub returns : goal.returns
returns c = exported _ _ _ _ _ _ _ c.if-values-ne-VALUES.false c.unmap-a.ensures c.give.ensures
