use Rattle.trees.proofs.CheckLaws.{height-empty, height-some}
use mathlib.Core.Path.{sym, ◌∙◌}
use Rattle.treecheck.proofs.checking.height.Goals as goal

pub returns-then-root-eq64 : goal.returns-then-root-eq64
returns-then-root-eq64 c = height-empty _ (sym c.root_at-root.ensures ∙ c.if-root-eq64.true)

pub returns : goal.returns
returns c = c.height_from.ensures ∙ height-some _ _ c.root_at-root.ensures c.if-root-eq64.false
