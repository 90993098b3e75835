use Rattle.std.proofs.Common.{arith}
use Rattle.runs.proofs.RunningLaws.{carries-le, carries-along, running-along}
use Rattle.runs.proofs.StepLaws.{along-room}
use Rattle.ranges.proofs.running.pass_stretch.Goals as goal

pub overflow_add-result : goal.overflow_add-result
overflow_add-result c = let asked = c.requires in
    let room = along-room _ _ _ _ _ asked.b_le_pages_in_space asked.along in
    omega (arith, room.0, room.1, carries-le _ _ _ _ (omega arith) asked.carries)

pub returns : goal.returns
returns c = let asked = c.requires in
    let room = along-room _ _ _ _ _ asked.b_le_pages_in_space asked.along in
    record { running_along = running-along _ _ _ _ _ _ (omega (arith, room.0)) asked.carries asked.along; carries_2 = carries-along _ _ _ _ _ _ (omega (arith, room.0)) asked.carries asked.along }
