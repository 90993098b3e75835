use Rattle.trees.proofs.CheckLaws.{enters-not, enters-if}
use native.Mathlib.Omega.{arith}
use mathlib.Core.Path.{ap, ◌∙◌}
use mathlib.Core.Bool.{not}
use Rattle.words.proofs.Cases.{true-false}
use Rattle.treecheck.proofs.checking.enters.Goals as goal

pub returns-then-n-gt63 : goal.returns-then-n-gt63
returns-then-n-gt63 c = enters-not _ _ _ _ _ (λ q. let h = q.number in omega arith)

pub returns-then-not-walk-n : goal.returns-then-not-walk-n
returns-then-not-walk-n c = c.node_fits.ensures ∙ enters-if _ _ _ _ _ c.if-n-gt63.false c.if-not-walk-n.true

pub returns-else-not-walk-n : goal.returns-else-not-walk-n
returns-else-not-walk-n c = ap not c.if-not-walk-n.false ∙ enters-not _ _ _ _ _ (λ q. true-false _ c.if-not-walk-n.false q.new)
