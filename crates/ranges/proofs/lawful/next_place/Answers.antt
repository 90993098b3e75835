use Rattle.runs.proofs.StepLaws.{next-on, next-short, next-long}
use Rattle.ranges.proofs.lawful.next_place.Goals as goal
use Rattle.ranges.proofs.lawful.next_place.Goals.{then-end-via-then-end, then-end-via-else-end+then-end-lt-SMALLEST_RANGE}

pub returns-then-end : goal.returns-then-end
returns-then-end c = elim c.then-end.branch [
  | then-end-via-then-end w ↦ next-on _ _ _ _ _ w.if-end.true
  | then-end-via-else-end+then-end-lt-SMALLEST_RANGE w ↦ next-short _ _ _ _ _ w.if-end.false w.if-end-lt-SMALLEST_RANGE.true
]

pub returns : goal.returns
returns c = next-long _ _ _ _ _ c.if-end.false c.if-end-lt-SMALLEST_RANGE.false
