use Rattle.std.proofs.Common.{◌≡◌, ◌+◌, ◌-◌}
use Rattle.history.specs.CatchUp.{applied}
use Rattle.invalidation.proofs.catch_up.caught_up.Given as goal

abbrev pub invariant-loop-m : goal.invariant-loop-m
invariant-loop-m l = applied l.control (l.c - l.seen) (l.seen + 1) l.initial.v ≡ applied l.control (l.c - l.m) (l.m + 1) l.v
