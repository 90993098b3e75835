use Rattle.std.proofs.Common.{refl}
use Rattle.runs.specs.PageWords.{frame_in}
use Rattle.ranges.proofs.page_words.frame_in.Goals as goal

pub returns : goal.returns
unfolding frame_in
returns c = refl
