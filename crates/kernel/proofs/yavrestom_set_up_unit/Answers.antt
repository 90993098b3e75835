use Rattle.kernel.proofs.ExportLaws.{no-values, no-unit, written}
use Rattle.history.proofs.Published.{fresh-number}
use mathlib.Core.Path.{◌∙◌}
use Rattle.history.specs.Units.{fresh_unit}
use Rattle.kernel.proofs.yavrestom_set_up_unit.Goals as goal

pub returns-then-values-ne-VALUES : goal.returns-then-values-ne-VALUES
returns-then-values-ne-VALUES c = λ T. no-values _ _ _ _ c.if-values-ne-VALUES.true

pub returns-then-unit-ne-UNIT : goal.returns-then-unit-ne-UNIT
returns-then-unit-ne-UNIT c = λ T. no-unit _ _ _ _ _ _ c.if-unit-ne-UNIT.true c.if-values-ne-VALUES.false c.give.ensures

pub returns : goal.returns
returns c = λ T. written _ _ _ _ _ _ (c.fresh-g.ensures T _) _ _ c.if-unit-ne-UNIT.false c.if-values-ne-VALUES.false c.give-2.ensures _ (c.give-2.ensures.0 ∙ fresh-number T fresh_unit _ _ (c.fresh-g.ensures T fresh_unit)) (c.write_unit.ensures.words_after, c.write_unit.ensures.reads_back)
