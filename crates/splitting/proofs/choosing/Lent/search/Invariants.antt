use mathlib.Core.Path.{◌≡◌}
use Prim.Native.Nat.{◌-◌}
use Rattle.blocks.specs.Inner.Around.{start_of}
use Rattle.blocks.specs.FrameWords.{free_in}
use Rattle.blocks.proofs.SearchedLaws.{NoneTried}
use Rattle.blocks.proofs.ChoosingLaws.{Whatever, Scanned}
use Rattle.splitting.proofs.choosing.Lent.search.Given as goal

abbrev pub invariant-loop-f : goal.invariant-loop-f
invariant-loop-f l = (start_of l.k l.from ≡ l.from) × Whatever l.self.pool l.self.frames.now l.self.marks.now l.known (Scanned l.self.pool l.k l.from)

abbrev pub decreases-loop-f : goal.decreases-loop-f
decreases-loop-f l = l.self.pool - l.from

abbrev pub invariant-loop-t : goal.invariant-loop-t
invariant-loop-t l = Whatever l.self.pool l.self.frames.now l.self.marks.now l.known (λ w. NoneTried l.self.pool (free_in w) l.limit l.top l.t)
