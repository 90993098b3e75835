use Rattle.std.proofs.Common.{eq-eqb, ne_eqb}
use Rattle.runs.specs.PageWords.{reserved_rights}
use Rattle.ranges.proofs.page_words.reserved_rights.Goals as goal

pub returns-then-rights-eq-WRITE : goal.returns-then-rights-eq-WRITE
unfolding reserved_rights
returns-then-rights-eq-WRITE c = rw (eq-eqb _ _ c.if-rights-eq-WRITE.true)

pub returns-else-rights-eq-WRITE : goal.returns-else-rights-eq-WRITE
unfolding reserved_rights
returns-else-rights-eq-WRITE c = rw (ne_eqb _ _ c.if-rights-eq-WRITE.false)
