use mathlib.Core.Path.{ap, ◌∙◌}
use Rattle.history.specs.declared.Call.TheVariants.{OnUnit}
use Rattle.history.proofs.ListLaws.{called-does, unit-called-does}
use Rattle.units.proofs.performing.perform_on.Goals as goal

pub returns-in-OnTables : goal.returns-in-OnTables
returns-in-OnTables c = rw c.in-OnTables.is (called-does _ _ _ _ _ c.on_tables.ensures)

pub returns-in-SetUpUnit : goal.returns-in-SetUpUnit
returns-in-SetUpUnit c = rw (c.in-OnUnit.is ∙ ap OnUnit c.in-SetUpUnit.is) (unit-called-does _ _ _ _ _ (c.set_up_unit.ensures _))

pub returns-in-Translate : goal.returns-in-Translate
returns-in-Translate c = rw (c.in-OnUnit.is ∙ ap OnUnit c.in-Translate.is) (unit-called-does _ _ _ _ _ c.translate.ensures)
