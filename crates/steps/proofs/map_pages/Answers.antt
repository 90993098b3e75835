use mathlib.Core.Path.{refl}
use native.Mathlib.Omega.{arith}
use Rattle.steps.proofs.LendingLaws.{mapped-pages}
use Rattle.steps.proofs.map_pages.Goals as goal

pub returns : goal.returns
returns c =
    let at = c.words_of-words.ensures in
    let ranges_at = c.words_of.ensures in
    let it = mapped-pages _ _ c.requires.pages_len c.requires.ranges_len _ c.requires.space_le_last_space _ _ _ _ (omega (arith, at.start)) (omega (arith, at.end)) ranges_at.start ranges_at.end _ _ _ _ refl refl _ _ _ _ _ _ _ c.map_space.ensures in
    record { value = it.0; frames_after = it.1.0; rewritten = it.1.1 }
