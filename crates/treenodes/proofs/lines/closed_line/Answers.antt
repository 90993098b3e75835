use Rattle.trees.specs.Nodes.{no_range}
use Rattle.trees.proofs.CloseLaws.{closed-ext}
use native.Mathlib.Omega.{arith}
use mathlib.Core.Path.{◌∙◌}
use Rattle.treenodes.proofs.lines.closed_line.Goals as goal

pub returns : goal.returns
returns c = record {
  range = λ j h. c.closed.ensures no_range j (omega arith) ∙ closed-ext _ _ _ 3 j (λ i l. c.ranges_of.ensures _ i (omega arith)) (omega arith);
  child = λ j h. c.closed-2.ensures 0 j (omega arith) ∙ closed-ext _ _ _ 4 j (λ i l. c.kids_of.ensures _ i (omega arith)) (omega arith);
}
