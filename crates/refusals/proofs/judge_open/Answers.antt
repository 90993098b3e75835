use mathlib.Core.Path.{sym, ◌∙◌}
use borrow.Author.Tests.{le-ltb, lt-ltb}
use Rattle.words.proofs.RefusalLaws.{refused, passed, decided}
use Rattle.words.proofs.JudgeLaws.{passes, goes-past, stops-at, passed-on}
use Rattle.refusals.specs.Inner.{of_tables}
use Rattle.layout.proofs.CallLaws.{open_by}
use Rattle.refusals.proofs.ConditionLaws.{tables-order, tables-shown, open-parts}
use Rattle.refusals.proofs.judge_open.Goals as goal

pub returns-in_err-judge_tables : goal.returns-in_err-judge_tables
returns-in_err-judge_tables c = passed-on _ _ c.from_residual.ensures _ (stops-at (of_tables _) (tables-order _) _ c.in_err-judge_tables.ensures _ ∙ sym (open-parts _ _))

pub returns-then-space-gt-LAST_SPACE : goal.returns-then-space-gt-LAST_SPACE
returns-then-space-gt-LAST_SPACE c = sym (open-parts _ _ ∙ goes-past (of_tables _) (tables-order _) _ c.in_ok-judge_tables.ensures ∙ refused _ _ _ _ (lt-ltb _ _ c.if-space-gt-LAST_SPACE.true))

pub open_mask-requires : goal.open_mask-requires
open_mask-requires c = (tables-shown _ (passes (of_tables _) (tables-order _) c.in_ok-judge_tables.ensures)).0.control

pub returns-then-is_open : goal.returns-then-is_open
returns-then-is_open c = sym (open-parts _ _ ∙ goes-past (of_tables _) (tables-order _) _ c.in_ok-judge_tables.ensures ∙ passed _ _ _ _ (le-ltb _ _ c.if-space-gt-LAST_SPACE.false) ∙ refused _ _ _ _ (open_by _ _ _ _ c.open_mask.ensures c.is_open.ensures ∙ c.if-is_open.true))

pub returns : goal.returns
returns c = sym (open-parts _ _ ∙ goes-past (of_tables _) (tables-order _) _ c.in_ok-judge_tables.ensures ∙ passed _ _ _ _ (le-ltb _ _ c.if-space-gt-LAST_SPACE.false) ∙ passed _ _ _ _ (open_by _ _ _ _ c.open_mask.ensures c.is_open.ensures ∙ c.if-is_open.false) ∙ decided _)
