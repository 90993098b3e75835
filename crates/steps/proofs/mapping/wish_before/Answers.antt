use mathlib.Core.Path.{sym, ◌∙◌}
use native.Mathlib.Omega.{arith}
use Rattle.steps.proofs.WishLaws.{frame-fits, wish-none, wish-unmapped, wish-mapped}
use Rattle.steps.proofs.mapping.wish_before.Goals as goal

pub returns-then-page-eq0 : goal.returns-then-page-eq0
returns-then-page-eq0 c = wish-none _ _ c.if-page-eq0.true

pub returns-then-not-there : goal.returns-then-not-there
returns-then-not-there c = wish-unmapped _ _ c.if-page-eq0.false (sym c.mapped-there.ensures ∙ c.if-not-there.true)

pub overflow_add-result : goal.overflow_add-result
overflow_add-result c = omega (arith, frame-fits _ _ c.frame_in-frame.ensures)

pub returns : goal.returns
returns c = wish-mapped _ _ c.if-page-eq0.false _ (sym c.mapped-there.ensures ∙ c.if-not-there.false) c.frame_in-frame.ensures
