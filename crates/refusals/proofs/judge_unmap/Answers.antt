use mathlib.Core.Path.{sym, ◌∙◌}
use Rattle.refusals.proofs.ConditionLaws.{unmap-parts}
use Rattle.refusals.proofs.judge_unmap.Goals as goal

pub returns : goal.returns
returns c = c.judge_protect.ensures ∙ sym (unmap-parts _ _ _ _)
