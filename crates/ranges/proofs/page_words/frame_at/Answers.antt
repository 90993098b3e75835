use Rattle.std.proofs.Common.{refl}
use Rattle.words.specs.Wrapping.{wrap_add}
use Rattle.ranges.proofs.page_words.frame_at.Goals as goal

pub returns : goal.returns
unfolding wrap_add
returns c = refl
