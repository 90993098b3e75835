use mathlib.Core.Path.{refl}
use Rattle.control.specs.Control.{record_count}
use Rattle.control.proofs.record_count.Goals as goal

pub returns : goal.returns
unfolding record_count
returns c = rw (← c.word_of_place-at.ensures.value) refl
