use mathlib.Core.Path.{refl}
use Rattle.words.specs.Bits.{has_bit}
use Rattle.control.specs.Control.{is_open}
use Rattle.control.proofs.is_open.Goals as goal

pub returns : goal.returns
unfolding is_open has_bit
returns c = rw c.bit_of-bit.ensures.value refl
