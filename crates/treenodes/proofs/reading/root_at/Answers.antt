use Rattle.trees.specs.Nodes.{root_in}
use borrow.Author.Rules.{rules}
use Rattle.treenodes.proofs.reading.root_at.Goals as goal

pub returns : goal.returns
unfolding root_in
returns c = search rules
