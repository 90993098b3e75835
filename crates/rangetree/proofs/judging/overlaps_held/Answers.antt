use mathlib.Core.Path.{sym, ap, ◌∙◌}
use Rattle.std.specs.Prelude.{Option}
use Rattle.trees.specs.declared.Range.{Range}
use Rattle.trees.specs.Inner.Search.{begins_before}
use Rattle.trees.proofs.CallLaws.{overlap-by}
use Rattle.rangetree.proofs.judging.overlaps_held.Goals as goal

pub returns-in-Some : goal.returns-in-Some
unfolding begins_before
returns-in-Some c = ap (λ (o : Option Range). begins_before o c.args.r.limit) (sym c.in-Some.is) ∙ overlap-by _ c.requires.tree_len c.requires.lawful_tree.0 _ c.requires.lawful_tree.1 _ c.search.ensures

pub returns-in-None : goal.returns-in-None
unfolding begins_before
returns-in-None c = ap (λ (o : Option Range). begins_before o c.args.r.limit) (sym c.in-None.is) ∙ overlap-by _ c.requires.tree_len c.requires.lawful_tree.0 _ c.requires.lawful_tree.1 _ c.search.ensures
