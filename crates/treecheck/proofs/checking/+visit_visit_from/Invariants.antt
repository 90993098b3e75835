use Rattle.std.proofs.Common.{◌+◌, ◌*◌}
use Rattle.treecheck.proofs.checking.+visit_visit_from.Given as goal

abbrev pub decreases-visit : goal.decreases-visit
decreases-visit l = 8 * l.level

abbrev pub decreases-visit_from : goal.decreases-visit_from
decreases-visit_from l = 8 * l.level + 1 + l.k
