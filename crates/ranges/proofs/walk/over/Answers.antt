use Rattle.std.proofs.Common.{sym, refl, ◌∙◌, arith}
use Rattle.runs.specs.Inner.{nowhere, empty, onward}
use Rattle.runs.proofs.WordLaws.{mapped-lt}
use Rattle.ranges.proofs.walk.over.Goals as goal

pub returns-then-w-eq0 : goal.returns-then-w-eq0
returns-then-w-eq0 c = record { along = empty c.if-w-eq0.true c.empty_from-pages.ensures; last_value = omega (arith, c.if-w-eq0.true) }

pub returns-then-not-mapped : goal.returns-then-not-mapped
returns-then-not-mapped c = record { along = nowhere; last_value = omega arith }

pub overflow_add-result : goal.overflow_add-result
overflow_add-result c = omega (arith, mapped-lt _ (sym c.mapped.ensures ∙ c.if-not-mapped.false), c.onward_from-pages.ensures.room)

pub returns : goal.returns
returns c = record { along = onward (sym c.mapped.ensures ∙ c.if-not-mapped.false) c.onward_from-pages.ensures; last_value = refl }
