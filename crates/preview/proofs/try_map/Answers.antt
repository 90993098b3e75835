use native.Mathlib.Omega.{arith}
use Rattle.preview.proofs.TryLaws.{copy-held, copy-cost}
use Rattle.preview.proofs.try_map.Goals as goal

pub preview_space-requires : goal.preview_space-requires
preview_space-requires c = let p = c.requires in
    record { frames_value = p.frames_value; part_len = omega arith; held_before = copy-held _ _ c.copied-mapped.ensures _ _ _ p.held_before; n_bound = p.n_bound; n_bound_2 = p.n_bound_2; rights_value = p.rights_value }

pub returns : goal.returns
returns c = let w = c.preview_space.ensures in
    let it = copy-cost _ _ c.copied-mapped.ensures _ _ _ _ _ _ _ (w.blocks_value, w.ranges_value) in
    record { blocks_value = it.0; ranges_value = it.1 }
