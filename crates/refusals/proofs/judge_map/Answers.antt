use borrow.Author.Rules.{rules}
use mathlib.Core.Path.{ap, sym, ◌∙◌}
use borrow.Author.Tests.{le-ltb, lt-ltb}
use Rattle.words.proofs.RefusalLaws.{refused, passed, decided}
use Rattle.words.proofs.JudgeLaws.{passes, goes-past, stops-at, passed-on}
use Rattle.refusals.proofs.ConditionLaws.{shared-order, shared-shown, map-parts, any-by, free-by, pool-low}
use Rattle.refusals.proofs.judge_map.Goals as goal

pub returns-in_err-judge_shared : goal.returns-in_err-judge_shared
returns-in_err-judge_shared c = passed-on _ _ c.from_residual.ensures _ (stops-at _ (shared-order _ _ _ _ _) _ c.in_err-judge_shared.ensures _ ∙ sym (map-parts _ _ _ _ _))

pub offset_bounds-lent-a : goal.offset_bounds-lent-a
offset_bounds-lent-a c = let w = shared-shown _ _ _ _ _ (passes _ (shared-order _ _ _ _ _) c.in_ok-judge_shared.ensures) in let l = w.lengths.pages in let h = w.space in search rules

pub slice_bounds-any_mapped-count : goal.slice_bounds-any_mapped-count
slice_bounds-any_mapped-count c = let w = shared-shown _ _ _ _ _ (passes _ (shared-order _ _ _ _ _) c.in_ok-judge_shared.ensures) in let l = w.lengths.pages in let h = w.space in search rules

pub slice_bounds-any_mapped-start : goal.slice_bounds-any_mapped-start
slice_bounds-any_mapped-start c = let w = shared-shown _ _ _ _ _ (passes _ (shared-order _ _ _ _ _) c.in_ok-judge_shared.ensures) in let l = w.lengths.pages in let h = w.space in search rules

pub slice_bounds-any_mapped-end : goal.slice_bounds-any_mapped-end
slice_bounds-any_mapped-end c = let w = shared-shown _ _ _ _ _ (passes _ (shared-order _ _ _ _ _) c.in_ok-judge_shared.ensures) in let l = w.lengths.pages in let h = w.space in search rules

pub any_mapped-requires : goal.any_mapped-requires
any_mapped-requires c = let w = shared-shown _ _ _ _ _ (passes _ (shared-order _ _ _ _ _) c.in_ok-judge_shared.ensures) in let l = w.lengths.pages in let h = w.space in let r = w.room in record { part_len = search rules; count_bound = search rules }

pub returns-then-any_mapped : goal.returns-then-any_mapped
returns-then-any_mapped c = sym (map-parts _ _ _ _ _ ∙ goes-past _ (shared-order _ _ _ _ _) _ c.in_ok-judge_shared.ensures ∙ refused _ _ _ _ (any-by _ _ _ _ _ c.any_mapped.ensures ∙ c.if-any_mapped.true))

pub pool_size-requires : goal.pool_size-requires
pool_size-requires c = (shared-shown _ _ _ _ _ (passes _ (shared-order _ _ _ _ _) c.in_ok-judge_shared.ensures)).lengths.control

pub count_free-requires : goal.count_free-requires
count_free-requires c = let w = shared-shown _ _ _ _ _ (passes _ (shared-order _ _ _ _ _) c.in_ok-judge_shared.ensures) in
    record { frames_len = w.lengths.frames; pool_le_largest_pool = pool-low _ _ c.pool_size.ensures w.tables }

pub returns-then-count_free-count : goal.returns-then-count_free-count
returns-then-count_free-count c = sym (map-parts _ _ _ _ _ ∙ goes-past _ (shared-order _ _ _ _ _) _ c.in_ok-judge_shared.ensures ∙ passed _ _ _ _ (any-by _ _ _ _ _ c.any_mapped.ensures ∙ c.if-any_mapped.false) ∙ refused _ _ _ _ (free-by _ _ _ _ _ c.pool_size.ensures c.count_free.ensures ∙ lt-ltb _ _ c.if-count_free-count.true))

pub returns : goal.returns
returns c = sym (map-parts _ _ _ _ _ ∙ goes-past _ (shared-order _ _ _ _ _) _ c.in_ok-judge_shared.ensures ∙ passed _ _ _ _ (any-by _ _ _ _ _ c.any_mapped.ensures ∙ c.if-any_mapped.false) ∙ passed _ _ _ _ (free-by _ _ _ _ _ c.pool_size.ensures c.count_free.ensures ∙ le-ltb _ _ c.if-count_free-count.false) ∙ decided _)
