use mathlib.Core.Path.{sym, ◌∙◌}
use Rattle.lookup.proofs.FindingLaws.{last-covers, first-covers}
use Rattle.lookup.proofs.entries.covering_place.Goals as goal

pub returns-then-place_covers : goal.returns-then-place_covers
returns-then-place_covers c = last-covers _ _ _ c.well_formed.0.1.1.1.0.1.0.1 (sym c.place_covers.ensures ∙ c.if-place_covers.true)

pub returns : goal.returns
returns c = first-covers _ _ _ c.well_formed.0.1.1.1.0.1.0.1 _ c.first_covering.ensures (sym c.place_covers.ensures ∙ c.if-place_covers.false)
