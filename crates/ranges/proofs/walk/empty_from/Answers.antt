use Rattle.runs.proofs.StepLaws.{empty-scanned}
use Rattle.ranges.proofs.walk.empty_from.Goals as goal

pub returns : goal.returns
returns c = empty-scanned _ _ _ c.zero_to-end.ensures.pass_to
