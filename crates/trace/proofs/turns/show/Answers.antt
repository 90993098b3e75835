use Rattle.trace.proofs.ListingLaws.{nothing_written}
use Rattle.trace.proofs.turns.show.Goals as goal

pub returns-in-None-clause-lines_after : goal.returns-in-None-clause-lines_after
returns-in-None-clause-lines_after c = rw c.in-None.is (nothing_written _ _)
