use Rattle.kernel.proofs.ExportLaws.{no-values, no-unit, written, unwritten, read-called}
use Rattle.kernel.proofs.yavrestom_translate.Goals as goal

pub returns-then-values-ne-VALUES : goal.returns-then-values-ne-VALUES
returns-then-values-ne-VALUES c = no-values _ _ _ _ c.if-values-ne-VALUES.true

pub returns-then-unit-ne-UNIT : goal.returns-then-unit-ne-UNIT
returns-then-unit-ne-UNIT c = no-unit _ _ _ _ _ _ c.if-unit-ne-UNIT.true c.if-values-ne-VALUES.false c.give.ensures

pub returns-then-number-ne0 : goal.returns-then-number-ne0
returns-then-number-ne0 c = unwritten _ _ _ _ _ _ (read-called _ _ _ _ _ _ c.read_unit-u.ensures c.translated-g.ensures) _ _ c.if-unit-ne-UNIT.false c.if-values-ne-VALUES.false c.give-number.ensures c.if-number-ne0.true

pub returns : goal.returns
returns c = written _ _ _ _ _ _ (read-called _ _ _ _ _ _ c.read_unit-u.ensures c.translated-g.ensures) _ _ c.if-unit-ne-UNIT.false c.if-values-ne-VALUES.false c.give-number.ensures _ c.if-number-ne0.false (c.write_unit.ensures.words_after, c.write_unit.ensures.reads_back)
