use Rattle.std.proofs.Common.{arith}
use Rattle.runs.proofs.StepLaws.{room_for}
use Rattle.runs.proofs.RenewLaws.{still-on, too_short_lem, long-run}
use Rattle.ranges.proofs.renew.end_run.Goals as goal

pub returns-then-end : goal.returns-then-end
returns-then-end c = still-on _ _ _ _ _ _ _ c.if-end.true

pub returns-then-end-lt-SMALLEST_RANGE : goal.returns-then-end-lt-SMALLEST_RANGE
returns-then-end-lt-SMALLEST_RANGE c = too_short_lem _ _ _ _ _ _ _ _ c.if-end.false c.if-end-lt-SMALLEST_RANGE.true c.mark.ensures

pub put-requires : goal.put-requires
put-requires c = record { ranges_len = omega arith; entry_room = room_for _ _ _ _ _ c.if-end.false (omega arith) c.args.end.room; some = omega (arith, c.args.end.inside) }

pub returns : goal.returns
returns c = long-run _ _ _ _ _ _ _ _ _ c.if-end.false (omega arith) c.mark-2.ensures c.put.ensures
