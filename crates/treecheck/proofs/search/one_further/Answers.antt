use Rattle.trees.specs.Inner.Search.{further}
use mathlib.Core.Path.{refl}
use Rattle.treecheck.proofs.search.one_further.Goals as goal

pub returns : goal.returns
unfolding further
returns c = refl
