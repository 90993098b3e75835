use mathlib.Core.Path.{refl}
use native.Mathlib.Omega.{arith}
use Rattle.blocks.proofs.AroundLaws.{in-block}
use Rattle.splitting.proofs.choosing.fn.Lent.order_around.find.Goals as goal

pub starts-requires : goal.starts-requires
starts-requires c =
    record { s_lt_pool = omega (arith, c.start_of.ensures, (in-block c.args.arg1.now c.captures.wish.0 c.captures.wish.0 refl).0, c.requires.wish_lt_pool); k_le_largest_order = c.requires.top_le_largest_order }
