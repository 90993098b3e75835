use Rattle.trees.proofs.CloseLaws.{behind-low, behind-high}
use native.Mathlib.Omega.{arith}
use mathlib.Core.Path.{sym, ◌∙◌}
use Rattle.treenodes.proofs.lines.fn.joined.from_fn.Goals as goal

pub returns-then-j-c : goal.returns-then-j-c
returns-then-j-c g c = c.at.ensures ∙ sym (behind-low _ _ _ _ c.if-j-c.true)

pub returns-else-j-c : goal.returns-else-j-c
returns-else-j-c g c = c.at-else-j-c.ensures ∙ sym (behind-high _ _ _ _ (omega arith))
