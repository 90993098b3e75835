use Rattle.trees.specs.Nodes.{no_range}
use Rattle.trees.proofs.GrowLaws.{opened-ext}
use native.Mathlib.Omega.{arith}
use mathlib.Core.Path.{refl, ◌∙◌}
use Rattle.treenodes.proofs.lines.opened_line.Goals as goal

pub returns : goal.returns
returns c = record {
  range = λ j h. c.opened.ensures no_range j (omega arith) ∙ opened-ext _ _ _ _ _ 3 j (λ i l. c.ranges_of.ensures _ i (omega arith)) refl (omega arith) (omega arith);
  child = λ j h. c.opened-2.ensures 0 j (omega arith) ∙ opened-ext _ _ _ _ _ 4 j (λ i l. c.kids_of.ensures _ i (omega arith)) refl (omega arith) (omega arith);
}
