use mathlib.Core.Path.{◌≡◌}
use mathlib.Core.Option.{some}
use Prim.Native.Nat.{◌-◌}
use lib.ListN.{length}
use Rattle.blocks.specs.FrameWords.{free_in}
use Rattle.blocks.specs.Choice.{frames_for}
use Rattle.blocks.proofs.AllocateLaws.{Noted}
use Rattle.blocks.proofs.Published.{Going}
use Rattle.splitting.proofs.taking.take_frames.Given as goal

abbrev pub invariant-loop-done : goal.invariant-loop-done
invariant-loop-done l = (l.n ≡ length l.initial.out) × ((length l.out ≡ l.n) × (Going l.pool l.initial.frames l.owner l.initial.next.0 l.n l.frames l.next.0 l.done l.blocks l.known × Noted (frames_for l.pool (free_in l.initial.frames) (some l.initial.next.0) l.n) l.done l.out))

abbrev pub decreases-loop-done : goal.decreases-loop-done
decreases-loop-done l = l.n - l.done
