use borrow.Author.Rules.{rules}
use lib.Dec.{ltb}
use Rattle.trees.specs.declared.Range.{Range}
use Rattle.trees.specs.Nodes.{count_in, range_in}
use Rattle.trees.proofs.PlaceLaws.{first-is}
use Rattle.treeinsert.proofs.insert_slot.Goals as goal

pub returns : goal.returns
returns c =
    first-is (range_in c.args.tree.now c.args.n) (count_in c.args.tree.now c.args.n) c.first_place.result (λ (q : Range). ltb c.args.base q.base)
    (record { within = c.first_place.ensures.within; before = λ j h. let e = c.first_place.ensures.before j h in search rules; there = λ h. let e = c.first_place.ensures.there h in search rules })
