use mathlib.Core.Path.{◌≡◌, refl, ◌∙◌}
use native.Mathlib.Omega.{arith}
use lib.Pow.{pow_pos}
use Rattle.blocks.proofs.Published.{lawful-facts, trying_start, trying-asks, trying-placed, trying-on, all_blocks}
use Rattle.steps.proofs.StepLaws.{blocks-none, blocks-long, block_more}
use Rattle.steps.proofs.previewing.preview_blocks.Goals as goal

pub loop-done-init : goal.loop-done-init
loop-done-init c = (trying_start _ _ _ _ _ c.requires.frames_value c.requires.n_bound (omega arith) c.requires.held_before c.nothing_known-known.ensures, (blocks-none _ _ _ _, refl))

pub mark_block-chosen-requires : goal.mark_block-chosen-requires
mark_block-chosen-requires c = record { frames_value = c.requires.frames_value; le_left = omega arith; marks_len = c.loop-done.invariant.1.1; previewed = trying-asks _ _ _ _ _ _ _ _ _ c.loop-done.invariant.0 }

pub size_of-size-requires : goal.size_of-size-requires
size_of-size-requires c = (trying-placed _ _ _ _ _ _ _ _ _ c.loop-done.invariant.0 c.loop-done-test.true _ _ c.mark_block-chosen.ensures).small

pub write_block-requires : goal.write_block-requires
write_block-requires c = let x = trying-placed _ _ _ _ _ _ _ _ _ c.loop-done.invariant.0 c.loop-done-test.true _ _ c.mark_block-chosen.ensures in
    let l = lawful-facts _ _ c.requires.frames_value in
    record { part_len = blocks-long _ _ _ _ _ _ c.loop-done.invariant.1.0 ∙ c.requires.part_len; order_bound = x.small; order_bound_2 = omega (arith, x.inside, l.small); order_bound_3 = omega (arith, x.fits, c.requires.n_bound_2); rights_value = c.requires.rights_value }

pub overflow_add-done : goal.overflow_add-done
overflow_add-done c = let x = trying-placed _ _ _ _ _ _ _ _ _ c.loop-done.invariant.0 c.loop-done-test.true _ _ c.mark_block-chosen.ensures in omega (arith, x.fits, c.size_of-size.ensures)

pub overflow_add-blocks : goal.overflow_add-blocks
overflow_add-blocks c = omega (arith, c.loop-done.invariant.0.going.few)

pub end_of-next-requires : goal.end_of-next-requires
end_of-next-requires c = let x = trying-placed _ _ _ _ _ _ _ _ _ c.loop-done.invariant.0 c.loop-done-test.true _ _ c.mark_block-chosen.ensures in
    let l = lawful-facts _ _ c.loop-done.invariant.0.going.lawful in
    record { order_le_largest_order = x.small; start_le_largest_pool = omega (arith, x.inside, l.small) }

pub loop-done-smaller : goal.loop-done-smaller
loop-done-smaller c = let x = trying-placed _ _ _ _ _ _ _ _ _ c.loop-done.invariant.0 c.loop-done-test.true _ _ c.mark_block-chosen.ensures in omega (arith, x.fits, c.size_of-size.ensures, pow_pos c.mark_block-chosen.result.block.order)

pub loop-done-preserved : goal.loop-done-preserved
loop-done-preserved c = let z = c.size_of-size.ensures in (
  trying-on _ _ _ _ _ _ _ _ _ c.loop-done.invariant.0 c.loop-done-test.true _ _ c.mark_block-chosen.ensures _ _ z c.end_of-next.ensures,
  (
    block_more _ _ _ _ _ _ _ _ _ _ _ (trying-placed _ _ _ _ _ _ _ _ _ c.loop-done.invariant.0 c.loop-done-test.true _ _ c.mark_block-chosen.ensures) c.loop-done.invariant.1.0 z c.write_block.ensures,
    c.mark_block-chosen.auto.marks ∙ c.loop-done.invariant.1.1,
  ),
)

pub shape_of-part : goal.shape_of-part
shape_of-part c = blocks-long _ _ _ _ _ _ c.loop-done.invariant.1.0

pub returns : goal.returns
returns c = let g = c.loop-done.invariant.0.going in
    let e : c.loop-done.done ≡ c.args.n = omega (arith, g.at_most) in
    record { value = all_blocks _ _ _ _ _ _ _ _ _ _ g c.loop-done-test.false; part_after = rw e at c.loop-done.invariant.1.0 }
