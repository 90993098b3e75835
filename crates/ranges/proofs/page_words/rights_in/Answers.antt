use Rattle.std.proofs.Common.{refl}
use Rattle.runs.specs.PageWords.{rights_in}
use Rattle.ranges.proofs.page_words.rights_in.Goals as goal

pub returns : goal.returns
unfolding rights_in
returns c = refl
