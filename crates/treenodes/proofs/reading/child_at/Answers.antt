use Rattle.trees.specs.Nodes.{child_in}
use borrow.Author.Rules.{rules}
use Rattle.treenodes.proofs.reading.child_at.Goals as goal

pub returns : goal.returns
unfolding child_in
returns c = search rules
