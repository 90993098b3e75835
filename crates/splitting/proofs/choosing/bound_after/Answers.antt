use native.Mathlib.Omega.{arith}
use Rattle.blocks.specs.Blocks.{block}
use Rattle.blocks.proofs.SearchedLaws.{bound-same, bound-down}
use Rattle.splitting.proofs.choosing.bound_after.Goals as goal

pub returns-then-size_of-left : goal.returns-then-size_of-left
returns-then-size_of-left c = bound-down _ (block _ _) _ _ _ c.if-order-lt10.true (omega (arith, c.size_of.ensures)) c.from_after-from.ensures

pub returns-else-size_of-left : goal.returns-else-size_of-left
returns-else-size_of-left c = bound-same _ (block _ _) _ _ (λ h. omega (arith, c.size_of.ensures))

pub returns-else-order-lt10 : goal.returns-else-order-lt10
returns-else-order-lt10 c = bound-same _ (block _ _) _ _ (λ h. absurd (omega arith))
