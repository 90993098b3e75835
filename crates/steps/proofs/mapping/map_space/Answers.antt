use mathlib.Core.Path.{ap, ◌∙◌}
use Rattle.blocks.proofs.Published.{lawful-facts}
use Rattle.runs.specs.Walk.{with_bits, range_words}
use Rattle.steps.proofs.WishLaws.{count-wished, frames-wished, given-same, mapped-same}
use Rattle.steps.proofs.mapping.map_space.Goals as goal

pub map_blocks-blocks-requires : goal.map_blocks-blocks-requires
map_blocks-blocks-requires c = record { frames_value = c.requires.frames_value; part_len = c.requires.part_len; n_bound = c.requires.n_bound; le_owner = c.requires.le_owner; n_bound_2 = c.requires.n_bound_2; n_bound_3 = c.requires.n_bound_3; rights_value = c.requires.rights_value }

pub returns : goal.returns
returns c = let e = c.wish_before-wish.ensures in
    let small = (lawful-facts _ _ c.requires.frames_value).small in
    let same = frames-wished _ _ _ small _ _ e in
    let words = mapped-same _ _ same _ _ _ _ _ c.map_blocks-blocks.ensures.part_after in
    record {
      value = c.map_blocks-blocks.ensures.value ∙ count-wished _ _ _ small _ _ e;
      frames = given-same _ _ same _ _ _ _ c.map_blocks-blocks.ensures.frames_after;
      pages = c.renew.ensures.part_after ∙ ap with_bits words;
      ranges = c.renew.ensures.ranges_after ∙ ap range_words words;
    }
