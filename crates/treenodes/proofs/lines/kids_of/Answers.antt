use Rattle.std.proofs.Common.{rules}
use Rattle.trees.specs.Nodes.{child_in}
use Rattle.treenodes.proofs.FromFnLaws.{made}
use Rattle.treenodes.proofs.lines.kids_of.Goals as goal

pub returns : goal.returns
unfolding child_in
returns c = λ d j h. made _ _ (child_in c.args.tree.now c.args.n) (λ i y q e. search rules) _ _ c.from_fn.ensures.items j d h
