use Prim.Native.Nat.{◌-◌}
use Rattle.blocks.proofs.SettleLaws.{Sofar}
use Rattle.merging.proofs.settling.settle.Given as goal

abbrev pub invariant-loop-f : goal.invariant-loop-f
invariant-loop-f l = Sofar l.pool l.initial.frames l.frames l.f.0

abbrev pub decreases-loop-f : goal.decreases-loop-f
decreases-loop-f l = l.pool - l.f.0
