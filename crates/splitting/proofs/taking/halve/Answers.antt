use mathlib.Core.Path.{refl}
use native.Mathlib.Omega.{arith}
use Rattle.blocks.proofs.AroundLaws.{in-block}
use Rattle.blocks.proofs.TakeLaws.{halves-more, half-inside}
use Rattle.splitting.proofs.taking.halve.Goals as goal

pub other_half-requires-clause-s_lt_largest_pool : goal.other_half-requires-clause-s_lt_largest_pool
other_half-requires-clause-s_lt_largest_pool c = omega (arith, (in-block c.args.top c.args.s.0 c.args.s.0 refl).1, c.requires.top_bound)

pub bounds-frames-other_half : goal.bounds-frames-other_half
bounds-frames-other_half c = omega (arith, half-inside c.loop-k.k c.args.top c.args.s.0 c.loop-k-test.true, c.other_half.ensures, c.requires)

pub loop-k-preserved : goal.loop-k-preserved
loop-k-preserved c = halves-more _ _ _ _ _ _ (omega arith) c.other_half.ensures (omega (arith, half-inside c.loop-k.k c.args.top c.args.s.0 c.loop-k-test.true, c.requires)) c.loop-k.invariant
