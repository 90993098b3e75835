use Prim.Native.Nat.{◌+◌, ◌<◌}
use Rattle.tablecheck.proofs.WalkingLaws.{named_none, named-scanned}
use Rattle.runs.proofs.StepLaws.{onward-scanned}
use Rattle.runs.proofs.WordLaws.{mapped-lt, frame-lt}
use native.Mathlib.Omega.{arith}
use mathlib.Core.Path.{refl}
use Rattle.tablecheck.proofs.walking.Space.onward_fitting.Goals as goal

pub returns-then-self-f : goal.returns-then-self-f
returns-then-self-f c = record { onward = record { room = omega arith; frames = omega (arith, frame-lt c.args.w); next = λ j lt. absurd (omega arith) }; named = named_none _ _ _ _ _ refl }

pub overflow_add-w : goal.overflow_add-w
overflow_add-w c = omega (arith, mapped-lt _ c.requires.w_value)

pub counts_beside-requires : goal.counts_beside-requires
counts_beside-requires c = let most = c.min-most.ensures in
    let low = mapped-lt _ c.requires.w_value in
    record { n_in_bounds = (omega arith, omega arith); n_in_bounds_2 = (omega arith, omega arith) }

pub returns : goal.returns
returns c = let most = c.min-most.ensures in
    let top : c.frame_in-f.result.0 + c.min-most.result < c.args.self.now.pool = omega arith in
    record { onward = onward-scanned _ _ _ _ _ _ _ _ (omega arith) (omega arith) (omega (arith, c.frame_in-f.ensures)) c.counts_beside.ensures; named = rw c.frame_in-f.ensures at (named-scanned _ _ _ _ _ _ _ _ _ top c.counts_beside.ensures) }
