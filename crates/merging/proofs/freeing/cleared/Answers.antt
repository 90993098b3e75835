use mathlib.Core.Path.{sym, ◌∙◌}
use Rattle.blocks.proofs.FreeLaws.{cleared-in, cleared-out}
use Rattle.merging.proofs.freeing.cleared.Goals as goal

pub returns-then-in_span : goal.returns-then-in_span
returns-then-in_span c = cleared-in _ _ _ (sym c.in_span.ensures ∙ c.if-in_span.true)

pub returns-else-in_span : goal.returns-else-in_span
returns-else-in_span c = cleared-out _ _ _ (sym c.in_span.ensures ∙ c.if-in_span.false)
