use Rattle.blocks.specs.Inner.Passes.{ClearedTo}
use Rattle.merging.proofs.freeing.clear.Given as goal

abbrev pub invariant-loop-w : goal.invariant-loop-w
invariant-loop-w l = ClearedTo l.initial.w-items l.owner l.n l.w-index l.w-items
