use mathlib.Core.Path.{refl}
use Rattle.control.specs.Control.{record_space}
use Rattle.control.proofs.record_space.Goals as goal

pub returns : goal.returns
unfolding record_space
returns c = rw (← c.word_of_place-at.ensures.value) refl
