use mathlib.Core.Path.{◌≡◌}
use mathlib.Core.Option.{some}
use Prim.Native.Nat.{◌-◌}
use lib.ListN.{length}
use Rattle.blocks.specs.FrameWords.{free_in}
use Rattle.blocks.specs.Choice.{frames_for}
use Rattle.blocks.proofs.Published.{Trying}
use Rattle.layout.specs.Changes.{map_words}
use Rattle.steps.proofs.previewing.preview_blocks.Given as goal

abbrev pub invariant-loop-done : goal.invariant-loop-done
invariant-loop-done l = Trying l.pool l.frames l.initial.next.0 l.n l.marks l.next.0 l.done l.blocks l.known × ((l.part ≡ map_words l.initial.part l.page l.done l.rights (frames_for l.pool (free_in l.frames) (some l.initial.next.0) l.n)) × (length l.marks ≡ 129))

abbrev pub decreases-loop-done : goal.decreases-loop-done
decreases-loop-done l = l.n - l.done
