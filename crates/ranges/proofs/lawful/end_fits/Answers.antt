use Rattle.std.proofs.Common.{arith}
use Rattle.runs.proofs.StepLaws.{room_for}
use Rattle.ranges.proofs.lawful.end_fits.Goals as goal

pub entry_is-requires-clause-entry_room : goal.entry_is-requires-clause-entry_room
entry_is-requires-clause-entry_room c = room_for _ _ _ _ _ c.if-end.false (omega arith) c.args.end.room
