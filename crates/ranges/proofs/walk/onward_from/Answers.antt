use Rattle.runs.proofs.StepLaws.{onward-scanned}
use Rattle.runs.proofs.WordLaws.{mapped-lt, frame-lt}
use Rattle.std.proofs.Common.{arith}
use Rattle.ranges.proofs.walk.onward_from.Goals as goal

pub overflow_sub-f : goal.overflow_sub-f
overflow_sub-f c = omega (arith, c.frame_in-f.ensures, frame-lt c.args.v)

pub overflow_add-v : goal.overflow_add-v
overflow_add-v c = omega (arith, mapped-lt _ c.requires.v_value)

pub overflow_add-v-2 : goal.overflow_add-v-2
overflow_add-v-2 c = omega (arith, mapped-lt _ c.requires.v_value)

pub counts_beside-requires : goal.counts_beside-requires
counts_beside-requires c = let low = mapped-lt _ c.requires.v_value in
    let most = c.min-most.ensures in
    record { n_in_bounds = (omega arith, omega arith); n_in_bounds_2 = (omega arith, omega arith) }

pub returns : goal.returns
returns c = let most = c.min-most.ensures in
    onward-scanned _ _ _ _ _ _ _ _ (omega arith) (omega arith) (omega (arith, c.frame_in-f.ensures)) c.counts_beside.ensures
