-- A lawful tree as the laws go through it, and a buffer that holds a tree.
use Rattle.std.specs.Prelude.{◌≡◌, true, List, ℕ, ◌≤◌, ◌<◌, length}
use Rattle.trees.specs.Nodes.{root_in}
use Rattle.trees.specs.Trees.{Rooted, contents, nodes, occ, Shape, root_of, tree_at}
use Rattle.trees.specs.Inner.Spans.{Between, Proper}
use Rattle.trees.specs.Inner.Walk.{zeros_in}
use Rattle.trees.specs.Inner.Standing.{Stands}

-- a lawful tree: its ranges lie one behind the other in the pages of a space
pub record Valid (t : Rooted) : Type 0 where
  pub shape : Shape t.height 1 t.tree
  pub numbers : (m : ℕ) → 1 ≤ occ m (nodes t.height t.tree) → m ≤ 63
  pub once : (m : ℕ) → occ m (nodes t.height t.tree) ≤ 1
  pub between : Between 0 (contents t.height t.tree) 1024
  pub propers : Proper (contents t.height t.tree)

-- the buffer b holds the tree t and nothing else
pub record Holding (b : List ℕ) (t : Rooted) : Type 0 where
  pub size : length b ≡ 1537
  pub root : root_in b ≡ root_of t.height t.tree
  pub tree : tree_at b t.height (root_in b) ≡ t.tree
  pub stands : Stands b t.height 1 (root_in b)
  pub free : (m : ℕ) → m < 64 → occ m (nodes t.height t.tree) ≡ 0 → zeros_in b m 0 24 ≡ true
