use mathlib.Core.Path.{◌∙◌, ap}
use Rattle.history.specs.Translate.{installed}
use Rattle.units.proofs.TranslationLaws.{lent-ranges}
use Rattle.units.proofs.install_found.Goals as goal

pub returns : goal.returns
returns c = c.install.ensures ∙ ap (λ l. installed c.args.u c.args.space c.args.p.0 l c.args.f) (lent-ranges _ _)
