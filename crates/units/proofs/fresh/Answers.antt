use mathlib.Core.Path.{refl}
use Rattle.history.specs.Units.{fresh_unit}
use Rattle.units.proofs.TranslationLaws.{fresh-called}
use Rattle.units.proofs.fresh.Goals as goal

pub returns : goal.returns
unfolding fresh_unit
returns c = λ T u. fresh-called T u _ _ c.emptied.ensures refl
