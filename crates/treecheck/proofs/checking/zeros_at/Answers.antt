use Rattle.trees.proofs.CheckLaws.{zeros-at}
use mathlib.Core.Path.{◌∙◌}
use Rattle.treecheck.proofs.checking.zeros_at.Goals as goal

pub returns : goal.returns
returns c = c.all_zero.ensures ∙ zeros-at _ _ _ _
