use Rattle.blocks.proofs.SearchedLaws.{scan-same, scan-other}
use Rattle.splitting.proofs.choosing.scan_from.Goals as goal

pub returns-then-k-known : goal.returns-then-k-known
returns-then-k-known c = scan-same _ _ c.if-k-known.true

pub returns-else-k-known : goal.returns-else-k-known
returns-else-k-known c = scan-other _ _ c.if-k-known.false
