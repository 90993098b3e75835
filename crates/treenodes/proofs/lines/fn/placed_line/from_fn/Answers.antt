use Rattle.trees.proofs.PlaceLaws.{placed-other}
use Rattle.trees.proofs.LineLaws.{placed-is}
use mathlib.Core.Path.{sym, ◌∙◌}
use Rattle.treenodes.proofs.lines.fn.placed_line.from_fn.Goals as goal

pub returns-then-j-i : goal.returns-then-j-i
returns-then-j-i c = placed-is _ _ _ _ c.if-j-i.true

pub returns-else-j-i : goal.returns-else-j-i
returns-else-j-i c = c.at.ensures ∙ sym (placed-other _ _ _ _ c.if-j-i.false)
