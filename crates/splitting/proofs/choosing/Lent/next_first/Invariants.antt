use Prim.Native.Nat.{◌-◌}
use Rattle.blocks.specs.Inner.Passes.{PassedTo}
use Rattle.splitting.proofs.choosing.Lent.next_first.Given as goal

abbrev pub invariant-loop-f : goal.invariant-loop-f
invariant-loop-f l = PassedTo l.self.frames.now l.k l.from l.f

abbrev pub decreases-loop-f : goal.decreases-loop-f
decreases-loop-f l = l.self.pool - l.f
