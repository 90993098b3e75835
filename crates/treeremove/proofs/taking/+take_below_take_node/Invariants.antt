use Rattle.std.proofs.Common.{◌+◌}
use Rattle.treeremove.proofs.taking.+take_below_take_node.Given as goal

abbrev pub decreases-take_below : goal.decreases-take_below
decreases-take_below l = l.level + l.level + 1

abbrev pub decreases-take_node : goal.decreases-take_node
decreases-take_node l = l.level + l.level
