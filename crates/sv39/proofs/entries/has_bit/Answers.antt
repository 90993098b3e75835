use mathlib.Core.Path.{refl}
use Rattle.words.specs.Bits.{has_bit}
use Rattle.sv39.proofs.entries.has_bit.Goals as goal

pub returns : goal.returns
unfolding has_bit
returns c = refl
