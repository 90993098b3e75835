use mathlib.Core.Path.{refl}
use Rattle.layout.proofs.SoundLaws.{lengths-at}
use Rattle.layout.specs.declared.TableCall.TheVariants.{Map}
use Rattle.layout.proofs.CallLaws.{call-refused, call-asked, map-facts, pool-lawful, pool-enough}
use Rattle.layout.proofs.DoneLaws.{map-done}
use Rattle.tables.proofs.WritingLaws.{mapped-as}
use Rattle.tables.proofs.map.Goals as goal

pub returns-in_err-judge_map : goal.returns-in_err-judge_map
returns-in_err-judge_map c = call-refused (Map _ _ _ _) _ _ _ c.from_residual.ensures c.in_err-judge_map.ensures

pub pool_size-pool-requires : goal.pool_size-pool-requires
pool_size-pool-requires c = (lengths-at _ (map-facts _ _ _ _ _ (call-asked (Map _ _ _ _) _ c.in_ok-judge_map.ensures)).spans.judged.lengths).control

pub map_pages-blocks-requires : goal.map_pages-blocks-requires
map_pages-blocks-requires c = let q = map-facts _ _ _ _ _ (call-asked (Map _ _ _ _) _ c.in_ok-judge_map.ensures) in
    let w = q.spans in
    let l = lengths-at _ w.judged.lengths in
    let e = c.pool_size-pool.ensures in
    record { frames_value = pool-lawful _ _ _ _ _ _ e q; n_bound = pool-enough _ _ _ _ _ _ e q; pages_len = l.pages; ranges_len = l.ranges; space_le_last_space = w.space; n_bound_2 = w.room; rights_value = q.allowed }

pub returns : goal.returns
returns c = let w = mapped-as _ _ _ _ c.pool_size-pool.ensures _ _ _ _ _ _ _ _ _ (c.map_pages-blocks.ensures.value, (c.map_pages-blocks.ensures.frames_after, c.map_pages-blocks.ensures.rewritten)) in rw c.from.ensures (map-done _ _ _ _ _ c.in_ok-judge_map.ensures _ _ _ _ _ w.0 refl w.1.0 w.1.1)
