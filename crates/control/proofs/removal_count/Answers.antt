use borrow.Author.Rules.{rules}
use Rattle.control.specs.Control.{removals}
use Rattle.control.proofs.removal_count.Goals as goal

pub returns : goal.returns
unfolding removals
returns c = search rules
