use Rattle.runs.proofs.CheckLaws.{zeros-all}
use Rattle.std.proofs.Common.{arith}
use Rattle.ranges.proofs.lawful.zeros_from.Goals as goal

pub returns : goal.returns
returns c = zeros-all _ _ _ (omega arith) c.all_zero.ensures
