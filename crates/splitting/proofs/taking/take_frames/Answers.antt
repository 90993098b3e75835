use mathlib.Core.Path.{refl, sym, ◌∙◌}
use native.Mathlib.Omega.{arith}
use lib.Pow.{pow_pos}
use Rattle.blocks.proofs.WordLaws.{lawful-is}
use Rattle.blocks.proofs.AllocateLaws.{noted-none, noted_more, noted-all}
use Rattle.blocks.proofs.Published.{going_start, next-placed, going_on, all_blocks, all_words, frames-fresh}
use Rattle.splitting.proofs.taking.take_frames.Goals as goal

pub loop-done-init : goal.loop-done-init
loop-done-init c = (refl, (refl, (going_start _ _ _ _ _ _ c.requires.frames_value c.requires.out_len_bound c.requires.le_owner c.requires.out_bound c.nothing_known-known.ensures, noted-none _ _)))

pub take_block-taken-requires : goal.take_block-taken-requires
take_block-taken-requires c = let s = c.loop-done.invariant.1.1.0 in
    record { frames_value = s.lawful; le_left = omega arith; left_bound = s.enough; le_owner = omega arith; left_bound_2 = omega (arith, s.at_most); searched = s.searched }

pub size_of-size-requires : goal.size_of-size-requires
size_of-size-requires c = (next-placed _ _ _ _ _ _ _ _ _ _ c.loop-done.invariant.1.1.0 c.loop-done-test.true _ _ c.take_block-taken.ensures).small

pub overflow_add-done : goal.overflow_add-done
overflow_add-done c = let x = next-placed _ _ _ _ _ _ _ _ _ _ c.loop-done.invariant.1.1.0 c.loop-done-test.true _ _ c.take_block-taken.ensures in omega (arith, x.fits, c.size_of-size.ensures)

pub count_up-requires : goal.count_up-requires
count_up-requires c = let x = next-placed _ _ _ _ _ _ _ _ _ _ c.loop-done.invariant.1.1.0 c.loop-done-test.true _ _ c.take_block-taken.ensures in
    let l = lawful-is _ _ c.loop-done.invariant.1.1.0.lawful in
    let z = c.size_of-size.ensures in
    record { end_in_bounds = omega (arith, x.fits, c.loop-done.invariant.1.0); from_le_end = omega arith; from_bound = omega (arith, x.inside, l.small) }

pub end_of-next-requires : goal.end_of-next-requires
end_of-next-requires c = let x = next-placed _ _ _ _ _ _ _ _ _ _ c.loop-done.invariant.1.1.0 c.loop-done-test.true _ _ c.take_block-taken.ensures in
    let l = lawful-is _ _ c.loop-done.invariant.1.1.0.lawful in
    record { order_le_largest_order = x.small; start_le_largest_pool = omega (arith, x.inside, l.small) }

pub overflow_add-done-in-loop-done : goal.overflow_add-done-in-loop-done
overflow_add-done-in-loop-done c = let x = next-placed _ _ _ _ _ _ _ _ _ _ c.loop-done.invariant.1.1.0 c.loop-done-test.true _ _ c.take_block-taken.ensures in omega (arith, x.fits, c.size_of-size.ensures)

pub overflow_add-blocks : goal.overflow_add-blocks
overflow_add-blocks c = omega (arith, c.loop-done.invariant.1.1.0.few)

pub loop-done-smaller : goal.loop-done-smaller
loop-done-smaller c = let x = next-placed _ _ _ _ _ _ _ _ _ _ c.loop-done.invariant.1.1.0 c.loop-done-test.true _ _ c.take_block-taken.ensures in omega (arith, x.fits, c.size_of-size.ensures, pow_pos c.take_block-taken.result.block.order)

pub loop-done-preserved : goal.loop-done-preserved
loop-done-preserved c = let z = c.size_of-size.ensures in (
  c.loop-done.invariant.0,
  (c.count_up.auto.words ∙ c.loop-done.invariant.1.0, (going_on _ _ _ _ _ _ _ _ _ _ c.loop-done.invariant.1.1.0 c.loop-done-test.true _ _ c.take_block-taken.ensures _ _ z c.end_of-next.ensures, noted_more _ _ _ _ _ _ _ z (next-placed _ _ _ _ _ _ _ _ _ _ c.loop-done.invariant.1.1.0 c.loop-done-test.true _ _ c.take_block-taken.ensures).frames c.count_up.ensures c.loop-done.invariant.1.1.1)),
)

pub shape_of-frames : goal.shape_of-frames
shape_of-frames c = (lawful-is _ _ c.loop-done.invariant.1.1.0.lawful).len ∙ sym (lawful-is _ _ c.requires.frames_value).len

pub shape_of-out : goal.shape_of-out
shape_of-out c = c.loop-done.invariant.1.0

pub returns : goal.returns
returns c = let s = c.loop-done.invariant.1.1.0 in
    let h = c.loop-done-test.false in
    record {
      blocks = all_blocks _ _ _ _ _ _ _ _ _ _ s h;
      words = all_words _ _ _ _ _ _ _ _ _ _ s h;
      frames = noted-all _ _ _ _ (frames-fresh _ _ _ _ c.requires.out_len_bound).many c.loop-done.invariant.1.0 h c.loop-done.invariant.1.1.1;
    }
