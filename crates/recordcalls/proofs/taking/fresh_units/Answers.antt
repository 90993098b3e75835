use mathlib.Core.List.{[]}
use Rattle.layout.specs.Tables.{tables}
use Rattle.history.specs.Units.{fresh_unit}
use Rattle.history.proofs.Published.{fresh-unit}
use Rattle.recordcalls.proofs.StepLaws.{both-fresh}
use Rattle.recordcalls.proofs.taking.fresh_units.Goals as goal

pub returns : goal.returns
returns c = both-fresh _ (fresh-unit (tables [] [] [] []) fresh_unit _ _ (c.fresh.ensures (tables [] [] [] []) fresh_unit))
