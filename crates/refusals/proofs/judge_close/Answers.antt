use mathlib.Core.Path.{ap, sym, ◌∙◌}
use Rattle.words.proofs.RefusalLaws.{refused, passed, decided}
use Rattle.words.proofs.JudgeLaws.{passes, goes-past, stops-at, passed-on}
use Rattle.refusals.proofs.ConditionLaws.{shared-order, shared-shown, close-parts}
use Rattle.refusals.proofs.judge_close.Goals as goal

pub returns-in_err-judge_shared : goal.returns-in_err-judge_shared
returns-in_err-judge_shared c = passed-on _ _ c.from_residual.ensures _ (stops-at _ (shared-order _ _ _ _ _) _ c.in_err-judge_shared.ensures _ ∙ sym (close-parts _ _))

pub no_number_left-requires : goal.no_number_left-requires
no_number_left-requires c = (shared-shown _ _ _ _ _ (passes _ (shared-order _ _ _ _ _) c.in_ok-judge_shared.ensures)).lengths.control

pub returns-then-no_number_left : goal.returns-then-no_number_left
returns-then-no_number_left c = sym (close-parts _ _ ∙ goes-past _ (shared-order _ _ _ _ _) _ c.in_ok-judge_shared.ensures ∙ refused _ _ _ _ (sym c.no_number_left.ensures ∙ c.if-no_number_left.true))

pub returns : goal.returns
returns c = sym (close-parts _ _ ∙ goes-past _ (shared-order _ _ _ _ _) _ c.in_ok-judge_shared.ensures ∙ passed _ _ _ _ (sym c.no_number_left.ensures ∙ c.if-no_number_left.false) ∙ decided _)
