use Rattle.ranges.proofs.PartLaws.{same-part}
use Rattle.ranges.proofs.lawful.entry_is.Goals as goal

pub returns : goal.returns
returns c = same-part _ _ _ _ _ c.eq.ensures c.entry.ensures
