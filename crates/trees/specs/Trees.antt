-- B-trees of ranges, with node numbers. Document 02, Change 7: "four ranges and five children at most in a node, at least two ranges except in the root, leaves at one depth."
-- A tree of height 0 is what stands below a leaf, or the empty tree: nothing. So leaves are at one depth, and a leaf is a node like any other.
use Rattle.std.specs.Prelude.{◌≡◌, cond, List, [], ◌∷◌, ◌++◌, map, ℕ, zero, suc, ◌+◌, ◌/◌, ◌%◌, ◌≤◌, leb, ltb, eqb, length}
use Rattle.words.specs.Tables.{tabulate}
use Rattle.trees.specs.declared.Range.{Range}
use Rattle.trees.specs.Nodes.{root_in, no_root, count_in, leaf_in, range_in, child_in, node_word, SameNode}

-- a range and what stands to its right
pub record Branch (A : Type 0) : Type 0 where
  pub range : Range
  pub child : A

-- the first child, and the ranges with a child each
pub record Row (A : Type 0) : Type 0 where
  pub first : A
  pub rest : List (Branch A)

pub record Node (A : Type 0) : Type 0 where
  pub number : ℕ
  pub row : Row A

abbrev pub Tree : ℕ → Type 0
Tree zero = Unit {0}
Tree (suc h) = Node (Tree h)

-- a tree of some height; the empty one has height 0
pub record Rooted : Type 0 where
  pub height : ℕ
  pub tree : Tree height

-- the ranges after the first child, in order
unfoldable pub along : {A : Type 0} → (A → List Range) → List (Branch A) → List Range
along f [] = []
along f (b ∷ bs) = b.range ∷ (f b.child ++ along f bs)

unfoldable pub in_row : {A : Type 0} → (A → List Range) → Row A → List Range
in_row f w = f w.first ++ along f w.rest

-- the ranges of a tree, in order
unfoldable pub contents : (h : ℕ) → Tree h → List Range
contents zero t = []
contents (suc h) t = in_row (contents h) t.row

-- what f gives of each child after the first
unfoldable pub besides : {A B : Type 0} → (A → List B) → List (Branch A) → List B
besides f [] = []
besides f (b ∷ bs) = f b.child ++ besides f bs

-- the numbers of its nodes
unfoldable pub nodes : (h : ℕ) → Tree h → List ℕ
nodes zero t = []
nodes (suc h) t = t.number ∷ (nodes h t.row.first ++ besides (nodes h) t.row.rest)

-- how often a number stands in a list
unfoldable pub occ : ℕ → List ℕ → ℕ
occ m [] = 0
occ m (x ∷ xs) = cond (eqb x m) 1 0 + occ m xs

-- "four ranges and five children at most in a node, at least two ranges except in the root"

-- each child after the first has P
pub data Each {A : Type 0} (P : A → Type 0) : List (Branch A) → Type 0 where
  done : Each P []
  next : {x : Branch A} {xs : List (Branch A)} → P x.child → Each P xs → Each P (x ∷ xs)

pub record Fits {A : Type 0} (P : A → Type 0) (least most : ℕ) (w : Row A) : Type 0 where
  pub enough : least ≤ length w.rest
  pub few : length w.rest ≤ most
  pub first : P w.first
  pub others : Each P w.rest

-- each node has at most four ranges and at least two, the topmost at least `least`
abbrev pub Shape : (h : ℕ) → ℕ → Tree h → Type 0
Shape zero least t = Unit {0}
Shape (suc h) least t = Fits (Shape h 2) least 4 t.row

-- The words of a tree

-- the numbers of a node's children; a leaf has none
unfoldable pub child_numbers : (h : ℕ) → Row (Tree h) → List ℕ
child_numbers zero w = []
child_numbers (suc h) w = w.first.number ∷ map (λ (x : Branch (Tree (suc h))). x.child.number) w.rest

-- a node as it is stored: its number, and word j of it
pub record Stored : Type 0 where
  pub number : ℕ
  pub word : ℕ → ℕ

unfoldable pub stored : (h : ℕ) → Tree h → List Stored
stored zero t = []
stored (suc h) t =
    record { number = t.number; word = node_word (eqb h 0) (map (λ (x : Branch (Tree h)). x.range) t.row.rest) (child_numbers h t.row) }
    ∷ (stored h t.row.first ++ besides (stored h) t.row.rest)

-- word j of the node numbered n; "Unused words are zero"
unfoldable pub word_of : List Stored → ℕ → ℕ → ℕ
word_of [] n j = 0
word_of (e ∷ es) n j = cond (eqb e.number n) (e.word j) (word_of es n j)

-- "the root's number (64 if empty)"
unfoldable pub root_of : (h : ℕ) → Tree h → ℕ
root_of zero t = no_root
root_of (suc h) t = t.number

-- "the root's number (64 if empty), then 64 nodes of 24 words"
unfoldable pub tree_words : Rooted → List ℕ
tree_words t = root_of t.height t.tree ∷ tabulate 1536 (λ g. word_of (stored t.height t.tree) (g / 24) (g % 24))

-- of the nodes ns, those that are not on the way keep their words
pub record OthersStay (b : List ℕ) (ns way : List ℕ) (b' : List ℕ) : Type 0 where
  pub stay : (m : ℕ) → 1 ≤ occ m ns → occ m way ≡ 0 → SameNode b b' m

-- Reading a buffer: the tree of height h that starts at node n, whatever the words are

-- k branches from the i-th on, of which r gives the ranges and c the children; child 0 is the first one
unfoldable pub branches : {A : Type 0} → (ℕ → Range) → (ℕ → A) → ℕ → ℕ → List (Branch A)
branches r c zero i = []
branches r c (suc k) i = record { range = r i; child = c (suc i) } ∷ branches r c k (suc i)

unfoldable pub tree_at : List ℕ → (h : ℕ) → ℕ → Tree h
tree_at b zero n = tt
tree_at b (suc h) n = record { number = n; row = record { first = tree_at b h (child_in b n 0); rest = branches (range_in b n) (λ j. tree_at b h (child_in b n j)) (count_in b n) 0 } }

-- the height at node n: how many nodes the way by the first children has down to a leaf, at most k; of no node, 1, so that the check finds it
unfoldable pub height_from : List ℕ → ℕ → ℕ → ℕ
height_from b zero n = 0
height_from b (suc k) n = cond (ltb 63 n) 1 (cond (eqb (leaf_in b n) 1) 1 (height_from b k (child_in b n 0) + 1))

-- "64 if empty"; a lawful tree has no more than four levels (statement: `NeverAboveFour`)
unfoldable pub height_of : List ℕ → ℕ
height_of b = cond (eqb (root_in b) no_root) 0 (height_from b 4 (root_in b))

-- the tree that a buffer holds, and its ranges; for a lawful buffer it is the tree whose words these are (statement: `TreeReadBack`)
unfoldable pub tree_of : List ℕ → Rooted
tree_of b = record { height = height_of b; tree = tree_at b (height_of b) (root_in b) }

unfoldable pub contents_of : List ℕ → List Range
contents_of b = contents (height_of b) (tree_at b (height_of b) (root_in b))

-- Lookup: "the count of nodes on its path from the root"

-- the way goes into the child before the first range that ends behind the page, unless that range has it
unfoldable pub path_along : {A : Type 0} → (A → ℕ) → ℕ → A → List (Branch A) → ℕ
path_along f p a [] = f a
path_along f p a (x ∷ xs) =
    cond (ltb p x.range.limit)
    (cond (leb x.range.base p) 0 (f a))
    (path_along f p x.child xs)

-- how many nodes are on it, that of the range included (statement: `PathLeadsThere`)
unfoldable pub path_length : ℕ → (h : ℕ) → Tree h → ℕ
path_length p zero t = 0
path_length p (suc h) t = path_along (path_length p h) p t.row.first t.row.rest + 1
