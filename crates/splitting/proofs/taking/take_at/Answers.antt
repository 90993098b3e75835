use mathlib.Core.Path.{◌∙◌}
use native.Mathlib.Omega.{arith}
use Rattle.blocks.proofs.TakeLaws.{part-facts, take_done}
use Rattle.splitting.proofs.taking.take_at.Goals as goal

pub size_of-size-requires : goal.size_of-size-requires
size_of-size-requires c = let w = part-facts _ _ c.requires.frames_value _ _ _ c.requires.part_of in
    omega (arith, w.top_small, c.requires.part_of.below)

pub count_up-requires : goal.count_up-requires
count_up-requires c = let w = part-facts _ _ c.requires.frames_value _ _ _ c.requires.part_of in
    record { end_in_bounds = omega (arith, w.len, w.small, w.inside); from_le_end = omega arith; from_bound = omega (arith, w.size) }

pub halve-requires : goal.halve-requires
halve-requires c = let w = part-facts _ _ c.requires.frames_value _ _ _ c.requires.part_of in
    record { frames_len = c.count_up.auto.words ∙ w.len; order_le_top = c.requires.part_of.below; top_le_largest_order = w.top_small; top_bound = omega (arith, w.fits, w.small) }

pub returns : goal.returns
returns c = let w = part-facts _ _ c.requires.frames_value _ _ _ c.requires.part_of in
    take_done _ _ c.requires.frames_value _ _ _ _ _ c.requires.part_of _ _ c.requires.le_owner c.size_of-size.ensures (c.halve.auto.frames ∙ c.count_up.auto.words ∙ w.len) c.count_up.ensures c.halve.ensures
