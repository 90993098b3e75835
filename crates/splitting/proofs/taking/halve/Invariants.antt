use Rattle.blocks.specs.Inner.Passes.{Halved}
use Rattle.splitting.proofs.taking.halve.Given as goal

abbrev pub invariant-loop-k : goal.invariant-loop-k
invariant-loop-k l = Halved l.initial.frames l.s.0 l.order l.k l.frames
