use Rattle.std.proofs.Common.{◌+◌}
use Rattle.treecheck.proofs.search.+descend_search_node.Given as goal

abbrev pub decreases-descend : goal.decreases-descend
decreases-descend l = l.level + l.level + 1

abbrev pub decreases-search_node : goal.decreases-search_node
decreases-search_node l = l.level + l.level
