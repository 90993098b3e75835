use borrow.Author.Rules.{rules}
use mathlib.Core.Path.{ap, sym, ◌∙◌}
use mathlib.Core.Bool.{not}
use Rattle.words.proofs.RefusalLaws.{refused, passed, decided}
use Rattle.words.proofs.JudgeLaws.{passes, goes-past, stops-at, passed-on}
use Rattle.refusals.proofs.ConditionLaws.{shared-order, shared-shown, coverage-parts, any-by}
use Rattle.coverage.proofs.judge_coverage.Goals as goal

pub returns-in_err-judge_shared : goal.returns-in_err-judge_shared
returns-in_err-judge_shared c = passed-on _ _ c.from_residual.ensures _ (stops-at _ (shared-order _ _ _ _ _) _ c.in_err-judge_shared.ensures _ ∙ sym (coverage-parts _ _))

pub offset_bounds-lent-a : goal.offset_bounds-lent-a
offset_bounds-lent-a c = let w = shared-shown _ _ _ _ _ (passes _ (shared-order _ _ _ _ _) c.in_ok-judge_shared.ensures) in let l = w.lengths.pages in let h = w.space in search rules

pub slice_bounds-any_mapped-count : goal.slice_bounds-any_mapped-count
slice_bounds-any_mapped-count c = let w = shared-shown _ _ _ _ _ (passes _ (shared-order _ _ _ _ _) c.in_ok-judge_shared.ensures) in let l = w.lengths.pages in let h = w.space in search rules

pub slice_bounds-any_mapped-start : goal.slice_bounds-any_mapped-start
slice_bounds-any_mapped-start c = let w = shared-shown _ _ _ _ _ (passes _ (shared-order _ _ _ _ _) c.in_ok-judge_shared.ensures) in let l = w.lengths.pages in let h = w.space in search rules

pub slice_bounds-any_mapped-end : goal.slice_bounds-any_mapped-end
slice_bounds-any_mapped-end c = let w = shared-shown _ _ _ _ _ (passes _ (shared-order _ _ _ _ _) c.in_ok-judge_shared.ensures) in let l = w.lengths.pages in let h = w.space in search rules

pub any_mapped-requires : goal.any_mapped-requires
any_mapped-requires c = let w = shared-shown _ _ _ _ _ (passes _ (shared-order _ _ _ _ _) c.in_ok-judge_shared.ensures) in let l = w.lengths.pages in let h = w.space in record { part_len = search rules; count_bound = search rules }

pub returns-then-not-any_mapped : goal.returns-then-not-any_mapped
returns-then-not-any_mapped c = sym (coverage-parts _ _ ∙ goes-past _ (shared-order _ _ _ _ _) _ c.in_ok-judge_shared.ensures ∙ refused _ _ _ _ (ap not (any-by _ _ _ _ _ c.any_mapped.ensures ∙ c.if-not-any_mapped.true)))

pub returns : goal.returns
returns c = sym (coverage-parts _ _ ∙ goes-past _ (shared-order _ _ _ _ _) _ c.in_ok-judge_shared.ensures ∙ passed _ _ _ _ (ap not (any-by _ _ _ _ _ c.any_mapped.ensures ∙ c.if-not-any_mapped.false)) ∙ decided _)
