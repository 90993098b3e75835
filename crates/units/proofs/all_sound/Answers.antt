use mathlib.Core.Path.{ap, sym, ◌∙◌}
use mathlib.Core.Bool.{◌&&◌}
use Rattle.history.specs.Units.{unit_ok}
use Rattle.units.proofs.all_sound.Goals as goal

pub returns-then-not-tables_sound : goal.returns-then-not-tables_sound
returns-then-not-tables_sound c = sym (ap (λ b. b && unit_ok c.args.u) (sym c.tables_sound.ensures ∙ c.if-not-tables_sound.true))

pub returns : goal.returns
returns c = c.unit_ok.ensures ∙ sym (ap (λ b. b && unit_ok c.args.u) (sym c.tables_sound.ensures ∙ c.if-not-tables_sound.false))
