use mathlib.Core.Path.{sym}
use Rattle.lookup.proofs.FindingLaws.{none-covers}
use Rattle.lookup.proofs.entries.place_covers.Goals as goal

pub returns-in-None : goal.returns-in-None
returns-in-None c = let (some, at, there, beyond, same) = c.in-None.ensures.lookup in sym (none-covers c.args.ranges.now c.args.k c.args.s c.args.p.0 beyond)
