-- Which buffers hold a lawful tree. Document 02, Change 7: "2 a tree unlawful or with a range that insertion beside the others would refuse".
use Rattle.std.specs.Prelude.{◌≡◌, List, ◌∷◌, ◌++◌, ℕ, ◌≤◌}
use Rattle.words.specs.Refusals.{decide}
use Rattle.trees.specs.declared.Range.{Range}
use Rattle.trees.specs.Ranges.{beside_refusals, Ascends}
use Rattle.trees.specs.Trees.{Rooted, contents, nodes, occ, Shape, tree_words}

-- a lawful tree; "leaves at one depth" is in the type
pub record LawfulTree (t : Rooted) : Type 0 where
  -- "four ranges and five children at most in a node, at least two ranges except in the root"; the root at least one (docs/DECISIONS.md, 120)
  pub shape : Shape t.height 1 t.tree
  -- "64 nodes", each reached at most once (123)
  pub numbers : (m : ℕ) → 1 ≤ occ m (nodes t.height t.tree) → m ≤ 63
  pub once : (m : ℕ) → occ m (nodes t.height t.tree) ≤ 1
  -- "ranges as in the list", whose "Entries ascend by BASE" (123)
  pub ascending : Ascends (contents t.height t.tree)
  -- none is "a range that insertion beside the others would refuse"
  pub none-refused : (xs : List Range) (r : Range) (ys : List Range) → contents t.height t.tree ≡ xs ++ r ∷ ys → decide (beside_refusals r (xs ++ ys)) 0 ≡ 0

-- a buffer with the words of a lawful tree
pub record Lawful (b : List ℕ) : Type 0 where
  pub tree : Rooted
  pub words : b ≡ tree_words tree
  pub law : LawfulTree tree
