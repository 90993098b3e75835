-- Removal from a tree. Document 02, Change 7: "removal by BASE"; "a freed node can be taken again"; which lawful tree results: docs/DECISIONS.md, 122.
-- The range is taken from its leaf, or the one before it, the last of the subtree to its left, is taken and put into its place. On the way back the child on the way, if it has fewer than two ranges, is joined with its right neighbour, the last child with its left one, and parted again where the two have more than four: so it merges or borrows.
use Rattle.std.specs.Prelude.{Bool, cond, ◌||◌, List, [], ◌∷◌, ◌++◌, ℕ, zero, suc, ltb, eqb, length}
use Rattle.trees.specs.declared.Range.{Range}
use Rattle.trees.specs.Nodes.{no_range}
use Rattle.trees.specs.Trees.{Branch, Row, Node, Tree, Rooted}
use Rattle.trees.specs.Insertion.{spread, before, parted}

-- the rows of two neighbours and the range between them
unfoldable pub joined : {A : Type 0} → Row A → Range → Row A → Row A
joined v s w = record { first = v.first; rest = v.rest ++ record { range = s; child = w.first } ∷ w.rest }

-- it has not "at least two ranges"
unfoldable pub thin : {A : Type 0} → Node A → Bool
thin x = ltb (length x.row.rest) 2

-- two neighbours, the range between them and the branches behind: joined if one is thin, and parted again where they have more than four ranges
unfoldable pub mended : {A : Type 0} → Node A → Range → Node A → List (Branch (Node A)) → Row (Node A)
mended x s y bs =
    cond (thin x || thin y) (spread (parted x.number y.number (joined x.row s y.row)) bs)
    (record { first = x; rest = record { range = s; child = y } ∷ bs })

-- a range that was taken, and what is left
pub record Taken (A : Type 0) : Type 0 where
  pub range : Range
  pub left : A

-- out of the ranges of a leaf, of which there is one at least: the first whose BASE is not below b, or the last
unfoldable pub take_branch : {A : Type 0} → ℕ → List (Branch A) → Taken (List (Branch A))
take_branch b [] = record { range = no_range; left = [] }
take_branch b (x ∷ []) = record { range = x.range; left = [] }
take_branch b (x ∷ y ∷ ys) =
    cond (ltb x.range.base b) (record { range = (take_branch b (y ∷ ys)).range; left = x ∷ (take_branch b (y ∷ ys)).left })
    (record { range = x.range; left = y ∷ ys })

-- out of the child before range x, whose BASE is not below b: if it has BASE b, it is the one taken, and what g took out of the child stands in its place
unfoldable pub take_here : {A : Type 0} → (Node A → Taken (Node A)) → ℕ → Node A → Branch (Node A) → List (Branch (Node A)) → Taken (Row (Node A))
take_here g b a x xs =
    cond (eqb x.range.base b) (record { range = x.range; left = mended (g a).left (g a).range x.child xs })
    (record { range = (g a).range; left = mended (g a).left x.range x.child xs })

-- out of a row above the leaves: out of the child before the first range whose BASE is not below b, or out of the last child
unfoldable pub take_row : {A : Type 0} → (Node A → Taken (Node A)) → ℕ → Node A → List (Branch (Node A)) → Taken (Row (Node A))
take_row g b a [] = record { range = (g a).range; left = record { first = (g a).left; rest = [] } }
take_row g b a (x ∷ []) = cond (ltb x.range.base b) (record { range = (g x.child).range; left = mended a x.range (g x.child).left [] }) (take_here g b a x [])
take_row g b a (x ∷ y ∷ ys) =
    cond (ltb x.range.base b) (record { range = (take_row g b x.child (y ∷ ys)).range; left = before a x.range (take_row g b x.child (y ∷ ys)).left })
    (take_here g b a x (y ∷ ys))

-- out of a tree of height h + 1: the range of BASE b, or the last one, where all have a lower BASE. So below the range of BASE b, in the subtree to its left, the same b leads to the last range
unfoldable pub take_at : ℕ → (h : ℕ) → Tree (suc h) → Taken (Tree (suc h))
take_at b zero t = record { range = (take_branch b t.row.rest).range; left = record { number = t.number; row = record { first = t.row.first; rest = (take_branch b t.row.rest).left } } }
take_at b (suc h) t = record { range = (take_row (take_at b h) b t.row.first t.row.rest).range; left = record { number = t.number; row = (take_row (take_at b h) b t.row.first t.row.rest).left } }

-- a root without ranges goes, and its one child is the root
unfoldable pub lowered : (h : ℕ) → ℕ → Tree h → List (Branch (Tree h)) → Rooted
lowered h n a [] = record { height = h; tree = a }
lowered h n a (x ∷ xs) = record { height = suc h; tree = record { number = n; row = record { first = a; rest = x ∷ xs } } }

unfoldable pub remove_from : ℕ → (h : ℕ) → Tree h → Rooted
remove_from b zero t = record { height = zero; tree = t }
remove_from b (suc h) t = lowered h (take_at b h t).left.number (take_at b h t).left.row.first (take_at b h t).left.row.rest

unfoldable pub remove_tree : ℕ → Rooted → Rooted
remove_tree b t = remove_from b t.height t.tree

-- the nodes on the way of a removal of BASE b, from the topmost down to a leaf, and beside each below the topmost the neighbour that it may be joined with: only these are written
unfoldable pub way_beside : {A : Type 0} → (Node A → List ℕ) → ℕ → Node A → List (Branch (Node A)) → List ℕ
way_beside f b a [] = f a
way_beside f b a (x ∷ []) = cond (ltb x.range.base b) (a.number ∷ f x.child) (x.child.number ∷ f a)
way_beside f b a (x ∷ y ∷ ys) = cond (ltb x.range.base b) (way_beside f b x.child (y ∷ ys)) (x.child.number ∷ f a)

unfoldable pub removal_way : ℕ → (h : ℕ) → Tree h → List ℕ
removal_way b zero t = []
removal_way b (suc zero) t = t.number ∷ []
removal_way b (suc (suc h)) t = t.number ∷ way_beside (removal_way b (suc h)) b t.row.first t.row.rest
