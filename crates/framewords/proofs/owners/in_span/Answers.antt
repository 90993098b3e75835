use mathlib.Core.Path.{◌∙◌}
use native.Mathlib.Omega.{arith}
use borrow.Author.Tests.{lt-leb}
use Rattle.blocks.proofs.FreeLaws.{span-low, span-high}
use Rattle.framewords.proofs.owners.in_span.Goals as goal

pub returns-then-owner-w : goal.returns-then-owner-w
returns-then-owner-w c = span-high _ _ _ c.if-owner-w.true

pub returns-else-owner-w : goal.returns-else-owner-w
returns-else-owner-w c = lt-leb _ _ (omega (arith, c.if-owner-w.false)) ∙ span-low _ _ _ (omega (arith, c.if-owner-w.false))
