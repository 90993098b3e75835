use Rattle.trees.proofs.CheckLaws.{free-zero, free-met}
use mathlib.Core.Path.{refl, sym, ◌∙◌}
use Rattle.treecheck.proofs.checking.free_at.Goals as goal

pub returns-then-walk-n : goal.returns-then-walk-n
returns-then-walk-n c = c.if-walk-n.true ∙ sym (free-met _ _ _ c.if-walk-n.true)

pub returns-else-walk-n : goal.returns-else-walk-n
returns-else-walk-n c = c.zeros_at.ensures ∙ sym (free-zero _ _ _ c.if-walk-n.false _ refl)
