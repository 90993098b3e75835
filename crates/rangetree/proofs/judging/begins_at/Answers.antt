use Rattle.trees.specs.Inner.Search.{begins_at}
use Rattle.rangetree.proofs.judging.begins_at.Goals as goal

pub returns-in-Some : goal.returns-in-Some
unfolding begins_at
returns-in-Some c = rw c.in-Some.is

pub returns-in-None : goal.returns-in-None
unfolding begins_at
returns-in-None c = rw c.in-None.is
