use mathlib.Core.Path.{◌≡◌}
use Rattle.words.specs.Counts.{count}
use Rattle.blocks.specs.FrameWords.{free_in}
use Rattle.framewords.proofs.owners.count_free.Given as goal

abbrev pub invariant-loop-w : goal.invariant-loop-w
invariant-loop-w l = l.n ≡ count l.w-index (free_in l.frames)
