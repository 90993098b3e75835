use Rattle.words.proofs.ScanLaws.{pass_all}
use native.Mathlib.Omega.{arith}
use Rattle.words.proofs.scans.all_zero.Goals as goal

pub returns : goal.returns
returns c = pass_all _ _ _ _ (omega arith) c.zero_to-last.ensures.pass_to c.zero_to-last.ensures.result_value
