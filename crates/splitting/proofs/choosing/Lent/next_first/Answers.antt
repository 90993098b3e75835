use native.Mathlib.Omega.{arith}
use lib.Pow.{pow_pos}
use Rattle.blocks.proofs.AroundLaws.{order-size}
use Rattle.blocks.proofs.WordLaws.{lawful-is}
use Rattle.blocks.proofs.ChoosingLaws.{passed_none, passed-more}
use Rattle.splitting.proofs.choosing.Lent.next_first.Goals as goal

pub loop-f-init : goal.loop-f-init
loop-f-init c = passed_none _ _ _ c.requires.from_value

pub loop-f-smaller : goal.loop-f-smaller
loop-f-smaller c = omega (arith, c.size_of-size.ensures, pow_pos c.args.k)

pub loop-f-preserved : goal.loop-f-preserved
loop-f-preserved c = passed-more _ _ _ _ _ c.size_of-size.ensures c.loop-f.invariant c.if-self-f.false

pub overflow_add-f : goal.overflow_add-f
overflow_add-f c = omega (arith, (lawful-is _ _ c.args.self.now.sound).small, order-size _ c.requires.k_le_largest_order, c.size_of-size.ensures)

pub bounds-self-f : goal.bounds-self-f
bounds-self-f c = let l = lawful-is _ _ c.args.self.now.sound in omega (arith, l.small, l.len)

pub returns-clause-not_there : goal.returns-clause-not_there
returns-clause-not_there c = (c.loop-f.f, omega arith, c.loop-f.invariant)
