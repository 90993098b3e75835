use Rattle.trees.specs.Nodes.{count_in}
use borrow.Author.Rules.{rules}
use Rattle.treenodes.proofs.reading.count_at.Goals as goal

pub returns : goal.returns
unfolding count_in
returns c = search rules
