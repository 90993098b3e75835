use mathlib.Core.Path.{◌≡◌}
use mathlib.Core.Bool.{true}
use Prim.Native.Nat.{◌-◌}
use Rattle.words.specs.Counts.{count}
use Rattle.blocks.specs.FrameWords.{free_in, owned_in}
use Rattle.blocks.proofs.SettleLaws.{Sofar}
use Rattle.merging.proofs.checking.judge.Given as goal

abbrev pub invariant-loop-f : goal.invariant-loop-f
invariant-loop-f l = Sofar l.pool l.frames l.frames l.f × ((l.held ≡ count l.f (owned_in l.frames)) × ((l.f ≡ l.pool → ⊥) → free_in l.frames l.f ≡ true))

abbrev pub decreases-loop-f : goal.decreases-loop-f
decreases-loop-f l = l.pool - l.f
