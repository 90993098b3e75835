use native.Mathlib.Omega.{arith}
use Rattle.sv39.specs.Entries.{frame_of}
use Rattle.sv39.proofs.entries.frame_of.Goals as goal

pub overflow_cast-result-2 : goal.overflow_cast-result-2
overflow_cast-result-2 c = omega (arith, c.requires)

pub returns : goal.returns
unfolding frame_of
returns c = omega (arith, c.requires)
