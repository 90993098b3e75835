use borrow.Author.Rules.{rules}
use native.Mathlib.Omega.{arith}
use Rattle.layout.specs.declared.TableCall.TheVariants.{Map}
use Rattle.layout.proofs.SoundLaws.{lengths-at}
use Rattle.layout.proofs.CallLaws.{call-asked, map-facts}
use Rattle.layout.proofs.PreviewLaws.{preview-refused}
use Rattle.preview.proofs.TryLaws.{try-asks, try-done}
use Rattle.preview.proofs.preview.Goals as goal

pub returns-in_err-judge_map : goal.returns-in_err-judge_map
returns-in_err-judge_map c = preview-refused _ _ _ _ _ _ _ c.from_residual.ensures c.in_err-judge_map.ensures

pub pool_size-pool-requires : goal.pool_size-pool-requires
pool_size-pool-requires c = (lengths-at _ (map-facts _ _ _ _ _ (call-asked (Map _ _ _ _) _ c.in_ok-judge_map.ensures)).spans.judged.lengths).control

pub slice_bounds-try_map-end : goal.slice_bounds-try_map-end
slice_bounds-try_map-end c = let w = (map-facts _ _ _ _ _ (call-asked (Map _ _ _ _) _ c.in_ok-judge_map.ensures)).spans in let s = w.space in let l = (lengths-at _ w.judged.lengths).pages in search rules

pub try_map-cost-requires : goal.try_map-cost-requires
try_map-cost-requires c = let it = try-asks _ _ _ _ _ _ c.pool_size-pool.ensures (map-facts _ _ _ _ _ (call-asked (Map _ _ _ _) _ c.in_ok-judge_map.ensures)) in record { frames_value = it.0; part_len = it.1.0; held_before = it.1.1.0; n_bound = it.1.1.1.0; n_bound_2 = it.1.1.1.1.0; rights_value = it.1.1.1.1.1 }

pub returns : goal.returns
returns c = try-done _ _ _ _ _ _ c.pool_size-pool.ensures c.in_ok-judge_map.ensures _ _ (c.try_map-cost.ensures.blocks_value, omega (arith, c.try_map-cost.ensures.ranges_value))
