use Rattle.trees.specs.Inner.Walk.{kids}
use Rattle.treenodes.proofs.reading.kid_count.Goals as goal

pub returns-then-leaf : goal.returns-then-leaf
unfolding kids
returns-then-leaf c = rw c.if-leaf.true

pub returns-else-leaf : goal.returns-else-leaf
unfolding kids
returns-else-leaf c = rw c.if-leaf.false
