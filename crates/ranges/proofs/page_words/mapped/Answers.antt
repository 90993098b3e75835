use Rattle.std.proofs.Common.{refl}
use Rattle.runs.specs.PageWords.{mapped}
use Rattle.ranges.proofs.page_words.mapped.Goals as goal

pub returns : goal.returns
unfolding mapped
returns c = refl
