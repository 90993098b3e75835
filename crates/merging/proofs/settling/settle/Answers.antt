use mathlib.Core.Path.{◌∙◌}
use native.Mathlib.Omega.{arith}
use Rattle.blocks.proofs.SettleLaws.{at-start, one-turn, at-end}
use Rattle.merging.proofs.settling.settle.Goals as goal

pub loop-f-init : goal.loop-f-init
loop-f-init c = at-start _ _

pub settle_at-f-requires : goal.settle_at-f-requires
settle_at-f-requires c = record { frames_len = omega (arith, c.loop-f.invariant.len); pool_le_largest_pool = omega arith; f_lt_pool = c.loop-f-test.true; edge = c.loop-f.invariant.edge }

pub loop-f-smaller : goal.loop-f-smaller
loop-f-smaller c = omega (arith, c.settle_at-f.ensures.on, c.settle_at-f.ensures.inside)

pub loop-f-preserved : goal.loop-f-preserved
loop-f-preserved c = one-turn _ _ _ _ _ _ c.loop-f.invariant c.settle_at-f.auto.frames c.settle_at-f.ensures

pub fill-requires : goal.fill-requires
fill-requires c = record { end_in_bounds = omega (arith, c.loop-f.invariant.len); from_le_end = omega arith }

pub shape_of-frames : goal.shape_of-frames
shape_of-frames c = c.fill.auto.words ∙ c.loop-f.invariant.len

pub returns : goal.returns
returns c = at-end _ _ _ _ _ c.requires.frames_len c.loop-f-test.false c.loop-f.invariant c.fill.auto.words c.fill.ensures
