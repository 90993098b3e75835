use mathlib.Core.Path.{sym, ◌∙◌}
use Rattle.refusals.specs.Inner.{of_tables, shared}
use Rattle.refusals.proofs.ConditionLaws.{tables-order, tables-shown}
use Rattle.words.proofs.JudgeLaws.{passes, goes-past, stops-at, passed-on}
use Rattle.refusals.proofs.judge_shared.Goals as goal

pub returns-in_err-judge_tables : goal.returns-in_err-judge_tables
unfolding shared
returns-in_err-judge_tables c = passed-on _ _ c.from_residual.ensures _ (stops-at (of_tables _) (tables-order _) _ c.in_err-judge_tables.ensures _)

pub judge_span-requires : goal.judge_span-requires
judge_span-requires c = (tables-shown _ (passes (of_tables _) (tables-order _) c.in_ok-judge_tables.ensures)).0.control

pub returns : goal.returns
unfolding shared
returns c = c.judge_span.ensures ∙ sym (goes-past (of_tables _) (tables-order _) _ c.in_ok-judge_tables.ensures)
