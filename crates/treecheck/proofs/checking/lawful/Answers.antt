use Rattle.trees.proofs.CheckLaws.{lawful-not, lawful-rest, walk_is}
use Rattle.trees.specs.Inner.Walk.{start}
use mathlib.Core.Path.{sym, ◌∙◌}
use Rattle.treecheck.proofs.checking.lawful.Goals as goal

pub returns-in_default : goal.returns-in_default
unfolding start
returns-in_default c = lawful-not _ (sym c.in_default.is ∙ walk_is _ _ _ _ c.height.ensures c.root_at.ensures c.visit.ensures)

pub returns : goal.returns
unfolding start
returns c = c.free_fit.ensures ∙ lawful-rest _ _ (sym c.in-Some.is ∙ walk_is _ _ _ _ c.height.ensures c.root_at.ensures c.visit.ensures)
