use Rattle.std.proofs.Common.{rules}
use Rattle.words.specs.Counts.{one-if}
use Rattle.framewords.proofs.buffer.one_if_free.Goals as goal

pub returns-clause-value : goal.returns-clause-value
unfolding one-if
returns-clause-value c = search rules
