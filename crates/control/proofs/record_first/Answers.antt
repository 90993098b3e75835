use mathlib.Core.Path.{refl}
use Rattle.control.specs.Control.{record_first}
use Rattle.control.proofs.record_first.Goals as goal

pub returns : goal.returns
unfolding record_first
returns c = rw (← c.word_of_place-at.ensures.value) refl
