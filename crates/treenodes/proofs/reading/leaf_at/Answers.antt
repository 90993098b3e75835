use Rattle.trees.specs.Nodes.{leaf_in}
use borrow.Author.Rules.{rules}
use Rattle.treenodes.proofs.reading.leaf_at.Goals as goal

pub returns : goal.returns
unfolding leaf_in
returns c = search rules
