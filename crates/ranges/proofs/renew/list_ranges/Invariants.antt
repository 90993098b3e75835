use Rattle.std.proofs.Common.{◌-◌}
use Rattle.runs.proofs.RenewLaws.{Renewing}
use Rattle.ranges.proofs.renew.list_ranges.Given as goal

abbrev pub invariant-loop-i : goal.invariant-loop-i
invariant-loop-i l = Renewing l.initial.part l.part l.ranges l.i l.n l.v l.at

abbrev pub decreases-loop-i : goal.decreases-loop-i
decreases-loop-i l = 1024 - l.i
