use Rattle.words.proofs.SearchLaws.{all-step, all-stop, all_end}
use native.Mathlib.Omega.{arith}
use mathlib.Core.Path.{refl, sym, ◌∙◌}
use Rattle.treecheck.proofs.checking.free_fit.Goals as goal

pub loop-n-init : goal.loop-n-init
loop-n-init c = refl

pub returns-then-not-free_at : goal.returns-then-not-free_at
returns-then-not-free_at c = all-stop _ _ _ (omega arith) (sym c.free_at.ensures ∙ c.if-not-free_at.true) ∙ sym c.loop-n.invariant

pub loop-n-preserved : goal.loop-n-preserved
loop-n-preserved c = c.loop-n.invariant ∙ all-step _ _ _ (omega arith) (sym c.free_at.ensures ∙ c.if-not-free_at.false)

pub returns : goal.returns
returns c = all_end _ _ _ (omega arith) ∙ sym c.loop-n.invariant
