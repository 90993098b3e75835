use mathlib.Core.Path.{ap}
use lib.Dec.{eqb}
use Rattle.refusals.proofs.no_number_left.Goals as goal

pub returns : goal.returns
returns c = ap (λ m. eqb m 4294967295) c.removal_count.ensures
