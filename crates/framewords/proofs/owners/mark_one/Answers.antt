use mathlib.Core.Path.{sym, ◌∙◌}
use native.Mathlib.Omega.{arith}
use Rattle.blocks.proofs.FreeLaws.{span-in, mark-out, mark-in}
use Rattle.framewords.proofs.owners.mark_one.Goals as goal

pub overflow_sub-marks : goal.overflow_sub-marks
overflow_sub-marks c = (span-in _ _ _ (sym c.in_span.ensures ∙ c.if-in_span.true)).0

pub bounds-marks-w : goal.bounds-marks-w
bounds-marks-w c = let s = span-in _ _ _ (sym c.in_span.ensures ∙ c.if-in_span.true) in omega (arith, s.0, s.1)

pub returns-then-in_span : goal.returns-then-in_span
returns-then-in_span c = mark-in _ _ _ _ (sym c.in_span.ensures ∙ c.if-in_span.true) (omega arith)

pub returns-else-in_span : goal.returns-else-in_span
returns-else-in_span c = mark-out _ _ _ _ (sym c.in_span.ensures ∙ c.if-in_span.false)
