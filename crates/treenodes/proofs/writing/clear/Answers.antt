use Rattle.trees.proofs.NodeLaws.{put-zeros}
use Rattle.treenodes.proofs.writing.clear.Goals as goal

pub returns : goal.returns
returns c = put-zeros _ _ _ c.fill.ensures
