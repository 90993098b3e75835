use Rattle.blocks.proofs.SearchedLaws.{top-found}
use Rattle.splitting.proofs.choosing.top_order.Goals as goal

pub returns : goal.returns
returns c = top-found _ _ _ _ c.requires.limit_le_largest_order c.ilog2.ensures.power_le c.ilog2.ensures.next_power_gt c.min.ensures
