use borrow.Author.Rules.{rules}
use Rattle.control.specs.Control.{pool_size}
use Rattle.control.proofs.pool_size.Goals as goal

pub returns : goal.returns
unfolding pool_size
returns c = search rules
