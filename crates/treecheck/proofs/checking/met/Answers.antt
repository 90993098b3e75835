use Rattle.trees.specs.Inner.Walk.{met as has_met}
use borrow.Author.Rules.{rules}
use Rattle.treecheck.proofs.checking.met.Goals as goal

pub returns : goal.returns
unfolding has_met
returns c = search rules
