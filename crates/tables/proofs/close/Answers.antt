use borrow.Author.Rules.{rules}
use native.Mathlib.Omega.{arith}
use Rattle.layout.proofs.SoundLaws.{lengths-at}
use Rattle.layout.specs.declared.TableCall.TheVariants.{Close}
use Rattle.layout.proofs.CallLaws.{call-refused, call-asked, close_facts}
use Rattle.layout.proofs.DoneLaws.{close-done}
use Rattle.refusals.proofs.ConditionLaws.{pool-low}
use Rattle.tables.proofs.WritingLaws.{mask_low, open_at, closed-length, closed-left, closed-appended, freed-by}
use Rattle.tables.proofs.close.Goals as goal

pub returns-in_err-judge_close : goal.returns-in_err-judge_close
returns-in_err-judge_close c = call-refused (Close _) _ _ _ c.from_residual.ensures c.in_err-judge_close.ensures

pub pool_size-pool-requires : goal.pool_size-pool-requires
pool_size-pool-requires c = (lengths-at _ (close_facts _ _ (call-asked (Close _) _ c.in_ok-judge_close.ensures)).judged.lengths).control

pub unmap_pages-n-requires : goal.unmap_pages-n-requires
unmap_pages-n-requires c = let w = close_facts _ _ (call-asked (Close _) _ c.in_ok-judge_close.ensures) in
    let l = lengths-at _ w.judged.lengths in
    record { pages_len = l.pages; ranges_len = l.ranges; space_le_last_space = w.space; count_bound = omega arith }

pub overflow_mul-space : goal.overflow_mul-space
overflow_mul-space c = let h = (close_facts _ _ (call-asked (Close _) _ c.in_ok-judge_close.ensures)).space in search rules

pub overflow_add-space : goal.overflow_add-space
overflow_add-space c = let h = (close_facts _ _ (call-asked (Close _) _ c.in_ok-judge_close.ensures)).space in search rules

pub release-requires : goal.release-requires
release-requires c = let w = close_facts _ _ (call-asked (Close _) _ c.in_ok-judge_close.ensures) in
    let h = w.space in
    record { frames_len = (lengths-at _ w.judged.lengths).frames; pool_le_largest_pool = pool-low _ _ c.pool_size-pool.ensures w.judged.tables; le_owner = omega arith; n_bound = omega arith }

pub close_space-requires : goal.close_space-requires
close_space-requires c = let w = close_facts _ _ (call-asked (Close _) _ c.in_ok-judge_close.ensures) in
    record { control_len = (lengths-at _ w.judged.lengths).control; s_le_last_space = w.space; control_bound = mask_low _ w.judged.tables; s_value = open_at _ _ w.stands_open }

pub log_removal-requires : goal.log_removal-requires
log_removal-requires c = let w = close_facts _ _ (call-asked (Close _) _ c.in_ok-judge_close.ensures) in
    record { control_len = closed-length _ _ _ c.close_space.ensures (lengths-at _ w.judged.lengths).control; number_left = closed-left _ _ _ c.close_space.ensures w.number-left }

pub returns : goal.returns
returns c = rw c.from.ensures (close-done _ _ c.in_ok-judge_close.ensures _ _ _ _ _ c.unmap_pages-n.ensures.value (closed-appended _ _ _ _ c.close_space.ensures c.log_removal.ensures) (freed-by _ _ _ 0 _ _ _ c.pool_size-pool.ensures (omega arith) _ c.release.ensures) c.unmap_pages-n.ensures.rewritten)
