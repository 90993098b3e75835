use mathlib.Core.Path.{refl, ◌∙◌}
use Rattle.control.specs.Control.{record_fits}
use Rattle.control.proofs.record_fits.Goals as goal

pub returns : goal.returns
unfolding record_fits
returns c = c.record_ok.ensures ∙ rw (c.record_count.ensures, c.record_first-first.ensures, c.record_space-space.ensures, c.is_used-stands.ensures, c.removal_count.ensures) refl
