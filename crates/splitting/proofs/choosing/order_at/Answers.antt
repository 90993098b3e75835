use Rattle.blocks.proofs.SearchedLaws.{tried-up, tried-down}
use Rattle.splitting.proofs.choosing.order_at.Goals as goal

pub returns-then-top-t : goal.returns-then-top-t
returns-then-top-t c = tried-up _ _ _ c.if-top-t.true

pub returns-else-top-t : goal.returns-else-top-t
returns-else-top-t c = tried-down _ _ _ c.if-top-t.false
