use mathlib.Core.Path.{◌≡◌}
use Prim.Native.Nat.{◌+◌, ◌-◌}
use lib.ListN.{get_or}
use Rattle.words.specs.Counts.{count}
use Rattle.words.specs.Searches.{all_from, every}
use Rattle.runs.proofs.CheckLaws.{Checking}
use Rattle.tablecheck.specs.Inner.{page_mapped, page_fits}
use Rattle.tablecheck.proofs.walking.walk_space.Given as goal

abbrev pub invariant-loop-i : goal.invariant-loop-i
invariant-loop-i l = Checking l.space.part.now l.space.ranges.now l.i l.carried.length l.carried.word l.at
    × ((every (page_fits l.space.opened l.space.frames.now l.space.pool) l.space.first l.space.part.now ≡ all_from (1024 - l.i) l.i (λ p. page_fits l.space.opened l.space.frames.now l.space.pool (l.space.first + p) (get_or l.space.part.now p 0))) × (l.m ≡ count l.i (page_mapped l.space.part.now)))

abbrev pub decreases-loop-i : goal.decreases-loop-i
decreases-loop-i l = 1024 - l.i
