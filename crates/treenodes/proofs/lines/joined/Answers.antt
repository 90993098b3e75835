use Rattle.std.proofs.Common.{rules, get_or}
use Rattle.trees.specs.Inner.Places.{behind}
use Rattle.treenodes.proofs.FromFnLaws.{made}
use Rattle.treenodes.proofs.lines.joined.Goals as goal

pub returns : goal.returns
returns g c = λ d j h. made _ _ (λ j. behind (λ k. get_or c.args.x.now k c.args.other) c.args.c (λ k. get_or c.args.y.now k c.args.other) j) (λ i y q e. search rules) _ _ c.from_fn.ensures.items j d h
