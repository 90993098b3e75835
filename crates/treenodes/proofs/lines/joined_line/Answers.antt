use Rattle.trees.specs.Nodes.{no_range, count_in}
use Rattle.trees.proofs.CloseLaws.{behind-ext}
use Rattle.trees.proofs.GrowLaws.{opened-ext}
use native.Mathlib.Omega.{arith}
use mathlib.Core.Path.{◌≡◌, refl, ◌∙◌}
use Rattle.treenodes.proofs.lines.joined_line.Goals as goal

pub returns : goal.returns
returns c =
    let is : c.args.cx ≡ count_in c.args.tree.now c.args.x = c.requires.x_bound.1.1.0 in
    let few = c.requires.x_bound.1.1.1 in
    let sum = c.requires.y_bound in
    record {
      range = λ j h. c.joined.ensures no_range j (omega arith) ∙ behind-ext _ _ _ _ _ _ j is (λ i l. c.ranges_of-2.ensures _ i (omega arith)) (λ i l. c.opened-right.ensures _ i (omega arith) ∙ opened-ext _ _ _ _ _ 3 i (λ k l. c.ranges_of.ensures _ k (omega arith)) refl (omega arith) (omega arith));
      child = λ j h. c.joined-2.ensures 0 j (omega arith) ∙ behind-ext _ _ _ _ _ _ j (omega arith) (λ i l. c.kids_of.ensures _ i (omega arith)) (λ i l. c.kids_of-2.ensures _ i (omega arith));
    }
