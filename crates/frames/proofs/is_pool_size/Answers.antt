use mathlib.Core.Path.{◌∙◌}
use native.Mathlib.Omega.{arith}
use borrow.Author.Tests.{lt-leb}
use Rattle.blocks.proofs.CallLaws.{size_low, size-high}
use Rattle.frames.proofs.is_pool_size.Goals as goal

pub returns-then-pool-ge1 : goal.returns-then-pool-ge1
returns-then-pool-ge1 c = size-high _ c.if-pool-ge1.true

pub returns-else-pool-ge1 : goal.returns-else-pool-ge1
returns-else-pool-ge1 c = lt-leb _ _ (omega (arith, c.if-pool-ge1.false)) ∙ size_low _ (omega (arith, c.if-pool-ge1.false))
