use mathlib.Core.Path.{refl}
use Rattle.control.specs.Control.{with_mask, with_opened}
use Rattle.control.proofs.open_space.Goals as goal

pub returns : goal.returns
unfolding with_opened with_mask
returns c = rw (c.open_mask-mask.ensures, c.bit_of.ensures.value) refl
