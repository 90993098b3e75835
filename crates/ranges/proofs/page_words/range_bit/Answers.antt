use Rattle.std.proofs.Common.{refl}
use Rattle.runs.specs.PageWords.{range_bit}
use Rattle.ranges.proofs.page_words.range_bit.Goals as goal

pub returns : goal.returns
unfolding range_bit
returns c = refl
