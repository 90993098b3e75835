use Rattle.std.proofs.Common.{◌+◌}
use Rattle.treeinsert.proofs.+insert_below_insert_node.Given as goal

abbrev pub decreases-insert_below : goal.decreases-insert_below
decreases-insert_below l = l.level + l.level + 1

abbrev pub decreases-insert_node : goal.decreases-insert_node
decreases-insert_node l = l.level + l.level
