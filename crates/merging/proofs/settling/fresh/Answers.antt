use Rattle.blocks.proofs.SettleLaws.{fresh-words}
use Rattle.merging.proofs.settling.fresh.Goals as goal

pub returns : goal.returns
returns c = fresh-words _ _ _ _ c.requires.pool_le_largest_pool c.fill.ensures c.settle.ensures
