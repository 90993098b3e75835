use Rattle.std.proofs.Common.{rules, get_or}
use Rattle.trees.specs.Inner.Places.{opened}
use Rattle.treenodes.proofs.FromFnLaws.{made}
use Rattle.treenodes.proofs.lines.opened.Goals as goal

pub returns : goal.returns
returns g c = λ d j h. made _ _ (λ j. opened (λ k. get_or c.args.row.now k c.args.x) c.args.i c.args.x j) (λ i y q e. search rules) _ _ c.from_fn.ensures.items j d h
