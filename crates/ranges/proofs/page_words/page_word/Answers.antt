use Rattle.std.proofs.Common.{arith}
use Rattle.runs.specs.PageWords.{page_word}
use Rattle.runs.proofs.WordLaws.{allowed-low}
use Rattle.ranges.proofs.page_words.page_word.Goals as goal

pub overflow_mul-rights : goal.overflow_mul-rights
overflow_mul-rights c = omega (arith, allowed-low _ c.requires.rights_value)

pub overflow_add-rights : goal.overflow_add-rights
overflow_add-rights c = omega (arith, allowed-low _ c.requires.rights_value)

pub over_low-requires : goal.over_low-requires
over_low-requires c = omega (arith, allowed-low _ c.requires.rights_value)

pub returns : goal.returns
unfolding page_word
returns c = omega (arith, c.over_low.ensures)
