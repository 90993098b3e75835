use Rattle.trees.proofs.CheckLaws.{passed-low, passed-not, passed_is}
use mathlib.Core.Path.{sym, ◌∙◌}
use Rattle.treecheck.proofs.checking.passed.Goals as goal

pub returns-then-r-walk : goal.returns-then-r-walk
returns-then-r-walk c = passed-low _ _ c.if-r-walk.true

pub returns-then-not-proper_range : goal.returns-then-not-proper_range
returns-then-not-proper_range c = passed-not _ _ (sym c.proper_range.ensures ∙ c.if-not-proper_range.true)

pub returns : goal.returns
returns c = passed_is _ _ c.if-r-walk.false (sym c.proper_range.ensures ∙ c.if-not-proper_range.false)
