use Rattle.blocks.proofs.FreeLaws.{released}
use Rattle.merging.proofs.freeing.release.Goals as goal

pub returns : goal.returns
returns c = released _ _ _ _ _ _ c.requires.le_owner c.requires.n_bound c.clear.ensures c.settle.ensures
