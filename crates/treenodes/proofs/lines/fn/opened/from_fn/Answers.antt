use Rattle.trees.proofs.PlaceLaws.{opened-low}
use Rattle.trees.proofs.NodeLaws.{opened-is, opened-is-high}
use native.Mathlib.Omega.{arith}
use mathlib.Core.Path.{sym, ◌∙◌}
use Rattle.treenodes.proofs.lines.fn.opened.from_fn.Goals as goal

pub returns-then-j-i : goal.returns-then-j-i
returns-then-j-i g c = c.at.ensures ∙ sym (opened-low _ _ _ _ c.if-j-i.true)

pub returns-then-j-i-2 : goal.returns-then-j-i-2
returns-then-j-i-2 g c = opened-is _ _ _ _ c.if-j-i-2.true

pub returns-else-j-i-2 : goal.returns-else-j-i-2
returns-else-j-i-2 g c = c.at-else-j-i-2.ensures ∙ opened-is-high _ _ _ _ (omega arith) c.if-j-i-2.false
