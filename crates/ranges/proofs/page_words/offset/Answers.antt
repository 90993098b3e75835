use Rattle.std.proofs.Common.{refl}
use Rattle.words.specs.Wrapping.{wrap_sub}
use Rattle.ranges.proofs.page_words.offset.Goals as goal

pub returns : goal.returns
unfolding wrap_sub
returns c = refl
