use Rattle.trees.proofs.CloseLaws.{closed-low, closed-high}
use native.Mathlib.Omega.{arith}
use mathlib.Core.Path.{sym, ◌∙◌}
use Rattle.treenodes.proofs.lines.fn.closed.from_fn.Goals as goal

pub returns-then-j-i : goal.returns-then-j-i
returns-then-j-i g c = c.at.ensures ∙ sym (closed-low _ _ _ c.if-j-i.true)

pub returns-else-j-i : goal.returns-else-j-i
returns-else-j-i g c = c.at-else-j-i.ensures ∙ sym (closed-high _ _ _ (omega arith))
