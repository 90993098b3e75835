use Rattle.trees.proofs.NodeLaws.{PutTo}
use Rattle.trees.specs.Nodes.{no_range}
use Rattle.trees.specs.Inner.Places.{row_word}
use lib.ListN.{get_or}
use Prim.Native.Nat.{◌+◌}
use Rattle.treenodes.proofs.writing.put.Given as goal

abbrev pub invariant-loop-j : goal.invariant-loop-j
invariant-loop-j l = PutTo l.initial.tree l.n (row_word l.leaf l.k (λ i. get_or l.line.ranges (l.from + i) no_range) (λ i. get_or l.line.kids (l.from + i) 0)) l.j l.tree
