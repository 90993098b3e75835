use mathlib.Core.Path.{◌≡◌, ◌∙◌, sym}
use native.Mathlib.Omega.{arith}
use lib.Pow.{pow_pos}
use Rattle.blocks.proofs.Published.{lawful-facts, going_start, next-placed, going_on, all_blocks, all_words}
use Rattle.steps.proofs.StepLaws.{blocks-none, blocks-long, block_more}
use Rattle.steps.proofs.mapping.map_blocks.Goals as goal

pub loop-done-init : goal.loop-done-init
loop-done-init c = (going_start _ _ _ _ _ _ c.requires.frames_value c.requires.n_bound c.requires.le_owner c.requires.n_bound_2 c.nothing_known-known.ensures, blocks-none _ _ _ _)

pub take_block-taken-requires : goal.take_block-taken-requires
take_block-taken-requires c = let s = c.loop-done.invariant.0 in
    record { frames_value = s.lawful; le_left = omega arith; left_bound = s.enough; le_owner = omega arith; left_bound_2 = omega (arith, s.at_most); searched = s.searched }

pub size_of-size-requires : goal.size_of-size-requires
size_of-size-requires c = (next-placed _ _ _ _ _ _ _ _ _ _ c.loop-done.invariant.0 c.loop-done-test.true _ _ c.take_block-taken.ensures).small

pub overflow_add-page : goal.overflow_add-page
overflow_add-page c = omega (arith, c.requires.n_bound_3, c.loop-done-test.true)

pub write_block-requires : goal.write_block-requires
write_block-requires c = let x = next-placed _ _ _ _ _ _ _ _ _ _ c.loop-done.invariant.0 c.loop-done-test.true _ _ c.take_block-taken.ensures in
    let l = lawful-facts _ _ c.loop-done.invariant.0.lawful in
    record { part_len = blocks-long _ _ _ _ _ _ c.loop-done.invariant.1 ∙ c.requires.part_len; order_bound = x.small; order_bound_2 = omega (arith, x.inside, l.small); order_bound_3 = omega (arith, x.fits, c.requires.n_bound_3); rights_value = c.requires.rights_value }

pub overflow_add-done : goal.overflow_add-done
overflow_add-done c = let x = next-placed _ _ _ _ _ _ _ _ _ _ c.loop-done.invariant.0 c.loop-done-test.true _ _ c.take_block-taken.ensures in omega (arith, x.fits, c.size_of-size.ensures)

pub overflow_add-blocks : goal.overflow_add-blocks
overflow_add-blocks c = omega (arith, c.loop-done.invariant.0.few)

pub end_of-next-requires : goal.end_of-next-requires
end_of-next-requires c = let x = next-placed _ _ _ _ _ _ _ _ _ _ c.loop-done.invariant.0 c.loop-done-test.true _ _ c.take_block-taken.ensures in
    let l = lawful-facts _ _ c.loop-done.invariant.0.lawful in
    record { order_le_largest_order = x.small; start_le_largest_pool = omega (arith, x.inside, l.small) }

pub loop-done-smaller : goal.loop-done-smaller
loop-done-smaller c = let x = next-placed _ _ _ _ _ _ _ _ _ _ c.loop-done.invariant.0 c.loop-done-test.true _ _ c.take_block-taken.ensures in omega (arith, x.fits, c.size_of-size.ensures, pow_pos c.take_block-taken.result.block.order)

pub loop-done-preserved : goal.loop-done-preserved
loop-done-preserved c = let z = c.size_of-size.ensures in (going_on _ _ _ _ _ _ _ _ _ _ c.loop-done.invariant.0 c.loop-done-test.true _ _ c.take_block-taken.ensures _ _ z c.end_of-next.ensures, block_more _ _ _ _ _ _ _ _ _ _ _ (next-placed _ _ _ _ _ _ _ _ _ _ c.loop-done.invariant.0 c.loop-done-test.true _ _ c.take_block-taken.ensures) c.loop-done.invariant.1 z c.write_block.ensures)

pub shape_of-frames : goal.shape_of-frames
shape_of-frames c = (lawful-facts _ _ c.loop-done.invariant.0.lawful).len ∙ sym (lawful-facts _ _ c.requires.frames_value).len

pub shape_of-part : goal.shape_of-part
shape_of-part c = blocks-long _ _ _ _ _ _ c.loop-done.invariant.1

pub returns : goal.returns
returns c = let s = c.loop-done.invariant.0 in
    let h = c.loop-done-test.false in
    let e : c.loop-done.done ≡ c.args.n = omega (arith, s.at_most) in
    record { value = all_blocks _ _ _ _ _ _ _ _ _ _ s h; frames_after = all_words _ _ _ _ _ _ _ _ _ _ s h; part_after = rw e at c.loop-done.invariant.1 }
