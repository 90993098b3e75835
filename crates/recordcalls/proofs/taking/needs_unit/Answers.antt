use mathlib.Core.Path.{sym, ap, ◌∙◌}
use Rattle.history.specs.Lists.{takes_unit}
use Rattle.recordcalls.specs.Steps.{needs_unit}
use Rattle.recordcalls.proofs.taking.needs_unit.Goals as goal

pub returns-in-OnUnit : goal.returns-in-OnUnit
unfolding takes_unit
returns-in-OnUnit c = sym (ap needs_unit c.in-Ok.is ∙ ap takes_unit c.in-OnUnit.is)

pub returns-in_default : goal.returns-in_default
unfolding takes_unit
returns-in_default c = sym (ap needs_unit c.in-Ok.is ∙ ap takes_unit c.in_default.is)
