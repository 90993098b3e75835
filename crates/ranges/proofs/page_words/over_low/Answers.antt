use Rattle.std.proofs.Common.{◌∙◌, arith}
use Rattle.ranges.proofs.OneIf.{from-one-if}
use Rattle.ranges.proofs.page_words.over_low.Goals as goal

pub returns : goal.returns
returns c = omega (arith, c.from.ensures ∙ from-one-if _)
