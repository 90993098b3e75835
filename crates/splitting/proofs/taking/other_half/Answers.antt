use mathlib.Core.Path.{refl}
use native.Mathlib.Omega.{arith}
use Rattle.blocks.proofs.AroundLaws.{order-size, in-block, other-upper, other-lower}
use Rattle.splitting.proofs.taking.other_half.Goals as goal

pub overflow_add-result : goal.overflow_add-result
overflow_add-result c = let low = in-block c.args.k c.args.s.0 c.args.s.0 refl in
    omega (arith, low.0, order-size c.args.k (omega (arith, c.requires.k_bound)), c.size_of.ensures, c.start_of-own.ensures, c.requires.s_lt_largest_pool)

pub returns-then-low-own : goal.returns-then-low-own
returns-then-low-own c = other-upper _ _ _ _ c.start_of-own.ensures c.start_of-low.ensures _ c.size_of.ensures c.if-low-own.true

pub returns : goal.returns
returns c = other-lower _ _ _ _ c.start_of-own.ensures c.start_of-low.ensures c.if-low-own.false
