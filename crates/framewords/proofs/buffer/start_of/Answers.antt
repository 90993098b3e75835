use native.Mathlib.Omega.{arith}
use Rattle.blocks.proofs.AroundLaws.{start-shifted}
use Rattle.framewords.proofs.buffer.start_of.Goals as goal

pub returns : goal.returns
returns c = start-shifted 32 _ _ (omega arith)
