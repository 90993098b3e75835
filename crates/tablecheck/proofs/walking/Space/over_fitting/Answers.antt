use Rattle.tablecheck.proofs.WalkingLaws.{named_none}
use Rattle.runs.proofs.StepLaws.{along-none}
use Rattle.runs.proofs.WordLaws.{mapped-lt}
use Rattle.runs.specs.Inner.{onward}
use native.Mathlib.Omega.{arith}
use mathlib.Core.Path.{refl, sym, ◌∙◌}
use Rattle.tablecheck.proofs.walking.Space.over_fitting.Goals as goal

pub returns-then-not-mapped : goal.returns-then-not-mapped
returns-then-not-mapped c = record { along = c.over.ensures.along; last_value = c.over.ensures.last_value; named = named_none _ _ _ _ _ (along-none _ _ _ _ _ c.over.ensures.along (sym c.mapped.ensures ∙ c.if-not-mapped.true)) }

pub onward_fitting-pages-requires : goal.onward_fitting-pages-requires
onward_fitting-pages-requires c = record { b_le_pages_in_space = omega arith; w_value = sym c.mapped.ensures ∙ c.if-not-mapped.false }

pub overflow_add-result : goal.overflow_add-result
overflow_add-result c = omega (arith, mapped-lt _ (sym c.mapped.ensures ∙ c.if-not-mapped.false), c.onward_fitting-pages.ensures.onward.room)

pub returns : goal.returns
returns c = record { along = onward (sym c.mapped.ensures ∙ c.if-not-mapped.false) c.onward_fitting-pages.ensures.onward; last_value = refl; named = c.onward_fitting-pages.ensures.named }
