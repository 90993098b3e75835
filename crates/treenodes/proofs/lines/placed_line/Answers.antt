use Rattle.std.proofs.Common.{rules, get_or}
use Rattle.trees.specs.Nodes.{no_range}
use Rattle.trees.specs.Inner.Places.{placed}
use Rattle.trees.proofs.LineLaws.{placed-ext}
use Rattle.treenodes.proofs.FromFnLaws.{made}
use native.Mathlib.Omega.{arith}
use mathlib.Core.Path.{◌∙◌}
use Rattle.treenodes.proofs.lines.placed_line.Goals as goal

pub returns : goal.returns
returns c = record {
  range = λ j h. made _ _ (λ k. placed (λ m. get_or c.ranges_of-ranges.result m c.args.s) c.args.i c.args.s k) (λ i y q e. search rules) _ _ c.from_fn.ensures.items j no_range (omega arith) ∙ placed-ext _ _ _ _ j (c.ranges_of-ranges.ensures _ j h);
  child = λ j h. made _ _ (λ k. get_or c.kids_of-kids.result k 0) (λ i y q e. search rules) _ _ c.from_fn-2.ensures.items j 0 (omega arith) ∙ c.kids_of-kids.ensures _ j h;
}
