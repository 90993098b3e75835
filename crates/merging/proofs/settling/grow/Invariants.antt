use mathlib.Core.Path.{◌≡◌}
use mathlib.Core.Bool.{true}
use Rattle.blocks.specs.FrameWords.{free_in}
use Rattle.blocks.specs.Inner.Around.{around}
use Rattle.merging.proofs.settling.grow.Given as goal

abbrev pub invariant-loop-k : goal.invariant-loop-k
invariant-loop-k l = around l.pool (free_in l.frames) l.f.0 l.k ≡ true
