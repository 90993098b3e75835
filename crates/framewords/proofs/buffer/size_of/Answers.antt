use Rattle.words.proofs.PowerLaws.{shift_one}
use native.Mathlib.Omega.{arith}
use Rattle.framewords.proofs.buffer.size_of.Goals as goal

pub returns : goal.returns
returns c = shift_one 32 _ (omega arith)
