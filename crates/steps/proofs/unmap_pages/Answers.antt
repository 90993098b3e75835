use mathlib.Core.Path.{refl}
use Rattle.steps.proofs.LendingLaws.{unmapped-pages}
use Rattle.steps.proofs.unmap_pages.Goals as goal

pub returns : goal.returns
returns c =
    let at = c.words_of.ensures in
    let ranges_at = c.words_of-2.ensures in
    let it = unmapped-pages _ _ c.requires.pages_len c.requires.ranges_len _ c.requires.space_le_last_space _ _ _ _ at.start at.end ranges_at.start ranges_at.end _ _ _ _ refl refl _ _ _ c.unmap_space.ensures in
    record { value = it.0; rewritten = it.1 }
