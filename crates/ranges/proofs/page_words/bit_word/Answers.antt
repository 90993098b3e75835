use Rattle.std.proofs.Common.{sym, ◌∙◌}
use Rattle.runs.proofs.WordLaws.{bit-none, bit-low}
use Rattle.ranges.proofs.page_words.bit_word.Goals as goal

pub returns-then-not-mapped : goal.returns-then-not-mapped
returns-then-not-mapped c = sym (bit-none _ _ (sym c.mapped.ensures ∙ c.if-not-mapped.true))

pub returns : goal.returns
returns c = c.over_low.ensures ∙ sym (bit-low _ _ (sym c.mapped.ensures ∙ c.if-not-mapped.false))
