use Rattle.blocks.specs.Inner.Passes.{MarkedTo}
use Rattle.framewords.proofs.owners.mark_held.Given as goal

abbrev pub invariant-loop-w : goal.invariant-loop-w
invariant-loop-w l = MarkedTo l.frames l.owner l.n l.w-index l.marks
