use borrow.Author.Rules.{rules}
use mathlib.Core.Path.{ap, sym, ◌∙◌}
use mathlib.Core.Bool.{not}
use Rattle.words.proofs.RefusalLaws.{refused, passed, decided}
use Rattle.words.proofs.JudgeLaws.{passes, goes-past, stops-at, passed-on}
use Rattle.refusals.proofs.ConditionLaws.{shared-order, shared-shown, protect-parts, all-by}
use Rattle.refusals.proofs.judge_protect.Goals as goal

pub returns-in_err-judge_shared : goal.returns-in_err-judge_shared
returns-in_err-judge_shared c = passed-on _ _ c.from_residual.ensures _ (stops-at _ (shared-order _ _ _ _ _) _ c.in_err-judge_shared.ensures _ ∙ sym (protect-parts _ _ _ _ _))

pub offset_bounds-lent-a : goal.offset_bounds-lent-a
offset_bounds-lent-a c = let w = shared-shown _ _ _ _ _ (passes _ (shared-order _ _ _ _ _) c.in_ok-judge_shared.ensures) in let l = w.lengths.pages in let h = w.space in search rules

pub slice_bounds-all_mapped-count : goal.slice_bounds-all_mapped-count
slice_bounds-all_mapped-count c = let w = shared-shown _ _ _ _ _ (passes _ (shared-order _ _ _ _ _) c.in_ok-judge_shared.ensures) in let l = w.lengths.pages in let h = w.space in search rules

pub slice_bounds-all_mapped-start : goal.slice_bounds-all_mapped-start
slice_bounds-all_mapped-start c = let w = shared-shown _ _ _ _ _ (passes _ (shared-order _ _ _ _ _) c.in_ok-judge_shared.ensures) in let l = w.lengths.pages in let h = w.space in search rules

pub slice_bounds-all_mapped-end : goal.slice_bounds-all_mapped-end
slice_bounds-all_mapped-end c = let w = shared-shown _ _ _ _ _ (passes _ (shared-order _ _ _ _ _) c.in_ok-judge_shared.ensures) in let l = w.lengths.pages in let h = w.space in search rules

pub all_mapped-requires : goal.all_mapped-requires
all_mapped-requires c = let w = shared-shown _ _ _ _ _ (passes _ (shared-order _ _ _ _ _) c.in_ok-judge_shared.ensures) in let l = w.lengths.pages in let h = w.space in let r = w.room in record { part_len = search rules; count_bound = search rules }

pub returns-then-not-all_mapped : goal.returns-then-not-all_mapped
returns-then-not-all_mapped c = sym (protect-parts _ _ _ _ _ ∙ goes-past _ (shared-order _ _ _ _ _) _ c.in_ok-judge_shared.ensures ∙ refused _ _ _ _ (ap not (all-by _ _ _ _ _ c.all_mapped.ensures ∙ c.if-not-all_mapped.true)))

pub no_number_left-requires : goal.no_number_left-requires
no_number_left-requires c = (shared-shown _ _ _ _ _ (passes _ (shared-order _ _ _ _ _) c.in_ok-judge_shared.ensures)).lengths.control

pub returns-then-no_number_left : goal.returns-then-no_number_left
returns-then-no_number_left c = sym (protect-parts _ _ _ _ _ ∙ goes-past _ (shared-order _ _ _ _ _) _ c.in_ok-judge_shared.ensures ∙ passed _ _ _ _ (ap not (all-by _ _ _ _ _ c.all_mapped.ensures ∙ c.if-not-all_mapped.false)) ∙ refused _ _ _ _ (sym c.no_number_left.ensures ∙ c.if-no_number_left.true))

pub returns : goal.returns
returns c = sym (protect-parts _ _ _ _ _ ∙ goes-past _ (shared-order _ _ _ _ _) _ c.in_ok-judge_shared.ensures ∙ passed _ _ _ _ (ap not (all-by _ _ _ _ _ c.all_mapped.ensures ∙ c.if-not-all_mapped.false)) ∙ passed _ _ _ _ (sym c.no_number_left.ensures ∙ c.if-no_number_left.false) ∙ decided _)
