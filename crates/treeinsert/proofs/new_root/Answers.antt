use Rattle.trees.proofs.WidenLaws.{root-made}
use mathlib.Core.List.{[], ◌∷◌}
use mathlib.Core.Path.{refl}
use borrow.Author.Rules.{rules}
use Rattle.treeinsert.proofs.new_root.Goals as goal

pub returns : goal.returns
returns c = let free = c.unused-m.ensures in
    root-made _ _ _ _ _ _ _ (c.args.up.range ∷ c.args.up.range ∷ c.args.up.range ∷ c.args.up.range ∷ c.args.up.range ∷ c.args.up.range ∷ c.args.up.range ∷ []) (c.args.first ∷ c.args.up.node ∷ 0 ∷ 0 ∷ 0 ∷ 0 ∷ 0 ∷ 0 ∷ [])
    free.0 free.1.0 free.1.1.1 (search rules) refl refl refl c.put.ensures
