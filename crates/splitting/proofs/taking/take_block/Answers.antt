use native.Mathlib.Omega.{arith}
use Rattle.blocks.proofs.WordLaws.{lawful-is}
use Rattle.blocks.proofs.AllocateLaws.{chosen-inside, chosen-part, block-searched}
use Rattle.blocks.proofs.ChoosingLaws.{some-cut}
use Rattle.blocks.proofs.MarkLaws.{nothing-taken}
use Rattle.splitting.proofs.taking.take_block.Goals as goal

pub unwrap-cut-requires : goal.unwrap-cut-requires
unwrap-cut-requires c = some-cut _ _ _ _ _ _ _ c.choose.ensures _ (nothing-taken _ _ 1 c.requires.frames_value) c.requires.searched c.requires.le_left c.requires.left_bound

pub take_at-requires-clause-part_of : goal.take_at-requires-clause-part_of
take_at-requires-clause-part_of c = let st = nothing-taken _ _ 1 c.requires.frames_value in
    let ch = rw c.unwrap-cut.ensures at c.choose.ensures in
    chosen-part _ _ c.requires.frames_value _ _ _ (ch.block _ st c.requires.searched) _ (ch.first _ st c.requires.searched)

pub chosen_by-requires : goal.chosen_by-requires
chosen_by-requires c = let st = nothing-taken _ _ 1 c.requires.frames_value in
    let ch = rw c.unwrap-cut.ensures at c.choose.ensures in
    omega (arith, chosen-inside _ _ c.requires.frames_value _ _ _ (ch.block _ st c.requires.searched), (lawful-is _ _ c.requires.frames_value).small)

pub returns : goal.returns
returns c = let st = nothing-taken _ _ 1 c.requires.frames_value in
    let ch = rw c.unwrap-cut.ensures at c.choose.ensures in
    block-searched _ _ c.requires.frames_value _ _ _ (ch.block _ st c.requires.searched) _ c.requires.le_owner c.requires.left_bound_2 _ c.requires.searched _ c.chosen_by.ensures.block_value c.chosen_by.ensures.known_value _ c.take_at.ensures
