use Rattle.trees.specs.Inner.Search.{or_else}
use Rattle.treecheck.proofs.search.or_else.Goals as goal

pub returns : goal.returns
unfolding or_else
returns c = rw c.unwrap_or.ensures
