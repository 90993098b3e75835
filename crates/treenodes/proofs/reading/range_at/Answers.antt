use Rattle.trees.specs.Nodes.{range_in}
use borrow.Author.Rules.{rules}
use Rattle.treenodes.proofs.reading.range_at.Goals as goal

pub returns : goal.returns
unfolding range_in
returns c = search rules
