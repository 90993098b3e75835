use mathlib.Core.Path.{◌∙◌}
use Rattle.tablecheck.proofs.WalkingLaws.{fits-open, fits-closed}
use Rattle.tablecheck.proofs.walking.Space.page_fits.Goals as goal

pub returns-then-self : goal.returns-then-self
returns-then-self c = c.page_ok.ensures ∙ fits-open _ _ _ _ _ c.if-self.true

pub returns : goal.returns
returns c = fits-closed _ _ _ _ _ c.if-self.false _ c.mapped.ensures
