use native.Mathlib.Omega.{arith}
use Rattle.blocks.proofs.SearchedLaws.{top-fits}
use Rattle.splitting.proofs.choosing.order_within.Goals as goal

pub returns : goal.returns
returns c = top-fits _ _ _ c.requires c.top_order.ensures (omega arith)
