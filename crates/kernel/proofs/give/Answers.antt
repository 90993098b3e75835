use Rattle.words.proofs.PlaceLaws.{given-there, given-same}
use Rattle.kernel.proofs.give.Goals as goal

pub returns : goal.returns
returns c = given-there _ _ c.requires _ _ (given-same _ _ c.outcome.ensures _ _ _ c.give.ensures)
