use borrow.Author.Rules.{rules}
use Rattle.control.specs.Control.{open_mask}
use Rattle.control.proofs.open_mask.Goals as goal

pub returns : goal.returns
unfolding open_mask
returns c = search rules
