use borrow.Author.Rules.{rules}
use mathlib.Core.Path.{ap, ◌∙◌}
use mathlib.Core.List.{List}
use Prim.Native.Nat.{ℕ}
use native.Mathlib.Omega.{arith}
use Rattle.blocks.proofs.Published.{lawful-facts}
use Rattle.runs.specs.Runs.{range_count}
use Rattle.runs.specs.Walk.{range_words}
use Rattle.runs.proofs.RangeCountLaws.{entries-counted}
use Rattle.steps.proofs.WishLaws.{count-wished, frames-wished, mapped-same, held_at}
use Rattle.steps.proofs.previewing.preview_space.Goals as goal

pub preview_blocks-blocks-requires : goal.preview_blocks-blocks-requires
preview_blocks-blocks-requires c = record { frames_value = c.requires.frames_value; part_len = c.requires.part_len; held_before = held_at _ _ _ _ c.wish_before-wish.ensures c.requires.held_before; n_bound = c.requires.n_bound; n_bound_2 = c.requires.n_bound_2; rights_value = c.requires.rights_value }

pub overflow_cast-result : goal.overflow_cast-result
overflow_cast-result c = let few = (entries-counted _ _ (omega arith) c.list_ranges-listed.ensures.value).0 in search rules

pub returns : goal.returns
returns c = let e = c.wish_before-wish.ensures in
    let small = (lawful-facts _ _ c.requires.frames_value).small in
    let k = (entries-counted _ _ (omega arith) c.list_ranges-listed.ensures.value).1 in
    record { blocks_value = c.preview_blocks-blocks.ensures.value ∙ count-wished _ _ _ small _ _ e; ranges_value = omega (arith, k, ap (λ (l : List ℕ). range_count (range_words l)) (mapped-same _ _ (frames-wished _ _ _ small _ _ e) _ _ _ _ _ c.preview_blocks-blocks.ensures.part_after)) }
