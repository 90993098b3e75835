use Rattle.trees.proofs.ShrinkTopLaws.{root-gone}
use native.Mathlib.Omega.{arith}
use mathlib.Core.Path.{refl}
use Rattle.treeremove.proofs.root.drop_root.Goals as goal

pub returns : goal.returns
returns c = root-gone _ _ _ _ _ c.clear.ensures refl (omega arith)
