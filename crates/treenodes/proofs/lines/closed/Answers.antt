use Rattle.std.proofs.Common.{rules, get_or}
use Rattle.trees.specs.Inner.Places.{closed}
use Rattle.treenodes.proofs.FromFnLaws.{made}
use Rattle.treenodes.proofs.lines.closed.Goals as goal

pub returns : goal.returns
returns g c = λ d j h. made _ _ (λ j. closed (λ k. get_or c.args.row.now k c.args.other) c.args.i j) (λ i y q e. search rules) _ _ c.from_fn.ensures.items j d h
