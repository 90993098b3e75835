use borrow.Author.Rules.{rules}
use mathlib.Core.Path.{refl}
use native.Mathlib.Omega.{arith}
use Rattle.layout.proofs.SoundLaws.{lengths-at}
use Rattle.layout.specs.declared.TableCall.TheVariants.{Unmap}
use Rattle.layout.proofs.CallLaws.{call-refused, call-asked, unmap-facts}
use Rattle.layout.proofs.DoneLaws.{unmap-done}
use Rattle.refusals.proofs.ConditionLaws.{pool-low}
use Rattle.tables.proofs.WritingLaws.{freed-by}
use Rattle.tables.proofs.unmap.Goals as goal

pub returns-in_err-judge_unmap : goal.returns-in_err-judge_unmap
returns-in_err-judge_unmap c = call-refused (Unmap _ _ _) _ _ _ c.from_residual.ensures c.in_err-judge_unmap.ensures

pub pool_size-pool-requires : goal.pool_size-pool-requires
pool_size-pool-requires c = (lengths-at _ (unmap-facts _ _ _ _ (call-asked (Unmap _ _ _) _ c.in_ok-judge_unmap.ensures)).spans.judged.lengths).control

pub unmap_pages-n-requires : goal.unmap_pages-n-requires
unmap_pages-n-requires c = let w = (unmap-facts _ _ _ _ (call-asked (Unmap _ _ _) _ c.in_ok-judge_unmap.ensures)).spans in
    let l = lengths-at _ w.judged.lengths in
    record { pages_len = l.pages; ranges_len = l.ranges; space_le_last_space = w.space; count_bound = w.room }

pub overflow_mul-space : goal.overflow_mul-space
overflow_mul-space c = let w = (unmap-facts _ _ _ _ (call-asked (Unmap _ _ _) _ c.in_ok-judge_unmap.ensures)).spans in let h = w.space in let k = w.room in search rules

pub overflow_add-space : goal.overflow_add-space
overflow_add-space c = let w = (unmap-facts _ _ _ _ (call-asked (Unmap _ _ _) _ c.in_ok-judge_unmap.ensures)).spans in let h = w.space in let k = w.room in search rules

pub overflow_add-space-2 : goal.overflow_add-space-2
overflow_add-space-2 c = let w = (unmap-facts _ _ _ _ (call-asked (Unmap _ _ _) _ c.in_ok-judge_unmap.ensures)).spans in let h = w.space in let k = w.room in search rules

pub release-requires : goal.release-requires
release-requires c = let w = (unmap-facts _ _ _ _ (call-asked (Unmap _ _ _) _ c.in_ok-judge_unmap.ensures)).spans in
    let h = w.space in
    let k = w.room in
    record { frames_len = (lengths-at _ w.judged.lengths).frames; pool_le_largest_pool = pool-low _ _ c.pool_size-pool.ensures w.judged.tables; le_owner = omega arith; n_bound = omega arith }

pub log_removal-requires : goal.log_removal-requires
log_removal-requires c = let q = unmap-facts _ _ _ _ (call-asked (Unmap _ _ _) _ c.in_ok-judge_unmap.ensures) in
    record { control_len = (lengths-at _ q.spans.judged.lengths).control; number_left = q.number-left }

pub returns : goal.returns
returns c = rw c.from.ensures (unmap-done _ _ _ _ c.in_ok-judge_unmap.ensures _ _ _ _ _ c.unmap_pages-n.ensures.value c.log_removal.ensures (freed-by _ _ _ _ _ _ _ c.pool_size-pool.ensures refl _ c.release.ensures) c.unmap_pages-n.ensures.rewritten)
