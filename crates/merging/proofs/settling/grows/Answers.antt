use mathlib.Core.Path.{sym, ◌∙◌}
use Prim.Native.Nat.{◌+◌}
use native.Mathlib.Omega.{arith}
use borrow.Author.Tests.{eqb-true, eqb-false}
use Rattle.words.proofs.PowerLaws.{double}
use Rattle.blocks.proofs.AroundLaws.{order-size}
use Rattle.blocks.proofs.SettleLaws.{odd-start, past_end, upper-decides}
use Rattle.merging.proofs.settling.grows.Goals as goal

pub returns-then-not-can_start : goal.returns-then-not-can_start
returns-then-not-can_start c = odd-start _ _ _ c.requires.edge _ (omega arith) (eqb-false _ _ (sym c.can_start.ensures ∙ c.if-not-can_start.true))

pub overflow_add-half : goal.overflow_add-half
overflow_add-half c = omega (arith, order-size c.args.k (omega arith))

pub overflow_add-end : goal.overflow_add-end
overflow_add-end c = omega (arith, order-size (c.args.k + 1) (omega arith))

pub returns-then-pool-end : goal.returns-then-pool-end
returns-then-pool-end c = past_end _ _ _ c.requires.edge _ (omega arith) _ c.size_of-2.ensures (omega arith)

pub all_free-requires : goal.all_free-requires
all_free-requires c = omega (arith, double c.args.k)

pub returns : goal.returns
returns c = c.all_free.ensures ∙ upper-decides _ _ _ c.requires.edge _ (omega arith) _ _ c.size_of.ensures c.size_of-2.ensures c.requires.k_value (eqb-true _ _ (sym c.can_start.ensures ∙ c.if-not-can_start.false)) (omega arith)
