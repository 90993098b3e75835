-- What the inner functions of a removal ask and promise.
use Rattle.std.specs.Prelude.{◌≡◌, Bool, true, false, cond, not, ◌&&◌, List, [], ◌∷◌, ℕ, zero, suc, ◌+◌, ◌-◌, ◌*◌, ◌≤◌, ◌<◌, eqb, ltb, get_or}
use Rattle.trees.specs.declared.Range.{Range}
use Rattle.trees.specs.Nodes.{count_in, leaf_in, range_in, child_in, leaf_word, no_range, SameNode}
use Rattle.trees.specs.Trees.{Branch, Row, Node, Tree, nodes, tree_at, occ}
use Rattle.trees.specs.Insertion.{before}
use Rattle.trees.specs.Removal.{mended, Taken, take_at, removal_way}
use Rattle.trees.specs.Inner.Walk.{zeros_in, kids}
use Rattle.trees.specs.Inner.Places.{first_at, opened, placed, closed, behind}
use Rattle.trees.specs.Inner.Standing.{NodeIs, Stands}

-- the first of k places from i on whose range has no lower BASE than c
abbrev pub slot_under : (ℕ → Range) → ℕ → ℕ → ℕ → ℕ
slot_under r c k i = first_at (λ j. not (ltb (r j).base c)) k i

-- place i of k places, or the last one
unfoldable pub within : ℕ → ℕ → ℕ
within k i = cond (ltb i k) i (k - 1)

-- place i of k is there, and its range has BASE c
unfoldable pub found_at : (ℕ → Range) → ℕ → ℕ → ℕ → Bool
found_at r c k i = ltb i k && eqb (r i).base c

-- the ranges of x, s, and those of y; the children of both
abbrev pub JoinedRanges : List ℕ → ℕ → Range → ℕ → ℕ → Range
JoinedRanges b x s y = behind (range_in b x) (count_in b x) (opened (range_in b y) 0 s)

abbrev pub JoinedChildren : List ℕ → ℕ → ℕ → ℕ → ℕ
JoinedChildren b x y = behind (child_in b x) (count_in b x + 1) (child_in b y)

pub record JoinedLine (b : List ℕ) (x : ℕ) (s : Range) (y : ℕ) (ranges : List Range) (below : List ℕ) : Type 0 where
  pub range : (j : ℕ) → j ≤ count_in b x + count_in b y → get_or ranges j no_range ≡ JoinedRanges b x s y j
  pub child : (j : ℕ) → j ≤ count_in b x + 1 + count_in b y → get_or below j 0 ≡ JoinedChildren b x y j

pub record ClosedLine (b : List ℕ) (n i : ℕ) (ranges : List Range) (below : List ℕ) : Type 0 where
  pub range : (j : ℕ) → j < 3 → get_or ranges j no_range ≡ closed (range_in b n) i j
  pub child : (j : ℕ) → j < 4 → get_or below j 0 ≡ closed (child_in b n) (i + 1) j

pub record PlacedLine (b : List ℕ) (n i : ℕ) (s : Range) (ranges : List Range) (below : List ℕ) : Type 0 where
  pub range : (j : ℕ) → j < 4 → get_or ranges j no_range ≡ placed (range_in b n) i s j
  pub child : (j : ℕ) → j < 5 → get_or below j 0 ≡ child_in b n j

-- children j and j + 1 of node n, the nodes x and y, become one
pub record Merged (b : List ℕ) (leaf : Bool) (n j x y : ℕ) (b' : List ℕ) : Type 0 where
  pub left : NodeIs b' leaf x (count_in b x + 1 + count_in b y) (JoinedRanges b x (range_in b n j) y) (JoinedChildren b x y)
  pub gone : zeros_in b' y 0 24 ≡ true
  pub node : NodeIs b' false n (count_in b n - 1) (closed (range_in b n) j) (closed (child_in b n) (j + 1))
  pub others : (m : ℕ) → (m ≡ n → ⊥) → (m ≡ x → ⊥) → (m ≡ y → ⊥) → SameNode b b' m
  pub root : get_or b' 0 0 ≡ get_or b 0 0

-- or share their ranges anew
pub record Shared (b : List ℕ) (leaf : Bool) (n j x y : ℕ) (b' : List ℕ) : Type 0 where
  pub left : NodeIs b' leaf x 2 (JoinedRanges b x (range_in b n j) y) (JoinedChildren b x y)
  pub right : NodeIs b' leaf y (count_in b x + count_in b y - 2) (λ i. JoinedRanges b x (range_in b n j) y (3 + i)) (λ i. JoinedChildren b x y (3 + i))
  pub node : NodeIs b' false n (count_in b n) (placed (range_in b n) j (JoinedRanges b x (range_in b n j) y 2)) (child_in b n)
  pub others : (m : ℕ) → (m ≡ n → ⊥) → (m ≡ x → ⊥) → (m ≡ y → ⊥) → SameNode b b' m
  pub root : get_or b' 0 0 ≡ get_or b 0 0

-- what a mending asks of node n of height h + 1: its children stand, those at j and j + 1 with one range at least
pub record Uneven (b : List ℕ) (h n j : ℕ) : Type 0 where
  pub place : j < count_in b n
  pub rest : (i : ℕ) → i ≤ count_in b n → (i ≡ j → ⊥) → (i ≡ suc j → ⊥) → Stands b h 2 (child_in b n i)
  pub left : Stands b h 1 (child_in b n j)
  pub right : Stands b h 1 (child_in b n (suc j))
  pub number : n ≤ 63
  pub few : count_in b n ≤ 4
  pub flag : leaf_in b n ≡ leaf_word (eqb h 0)
  pub no-ranges : zeros_in b n (2 + count_in b n * 4) 18 ≡ true
  pub no-children : zeros_in b n (18 + kids (eqb h 0) (count_in b n)) 24 ≡ true
  pub once : (m : ℕ) → occ m (nodes (suc h) (tree_at b (suc h) n)) ≤ 1

-- a row with the children at places j and j + 1 mended
unfoldable pub mend_row : {A : Type 0} → ℕ → Node A → List (Branch (Node A)) → Row (Node A)
mend_row j a [] = record { first = a; rest = [] }
mend_row zero a (x ∷ xs) = mended a x.range x.child xs
mend_row (suc j) a (x ∷ xs) = before a x.range (mend_row j x.child xs)

-- a leaf has nothing to mend
unfoldable pub mend_tree : (h : ℕ) → ℕ → Tree (suc h) → Tree (suc h)
mend_tree zero j t = t
mend_tree (suc h) j t = record { number = t.number; row = mend_row j t.row.first t.row.rest }

-- the node after it: at most one of its nodes is freed, and only the node and the two children are written
pub record Mended (b : List ℕ) (h n j : ℕ) (b' : List ℕ) : Type 0 where
  pub tree : tree_at b' (suc h) n ≡ mend_tree h j (tree_at b (suc h) n)
  pub stands : (least : ℕ) → suc least ≤ count_in b n → Stands b' (suc h) least n
  pub fewer : (m : ℕ) → occ m (nodes (suc h) (tree_at b' (suc h) n)) ≤ occ m (nodes (suc h) (tree_at b (suc h) n))
  pub freed : (m : ℕ) → 1 ≤ occ m (nodes (suc h) (tree_at b (suc h) n)) → occ m (nodes (suc h) (tree_at b' (suc h) n)) ≡ 0 → zeros_in b' m 0 24 ≡ true
  pub others : (m : ℕ) → (m ≡ n → ⊥) → (m ≡ child_in b n j → ⊥) → (m ≡ child_in b n (suc j) → ⊥) → SameNode b b' m
  pub root : get_or b' 0 0 ≡ get_or b 0 0

-- node n without its range at place i and the child behind it
pub record Trimmed (b : List ℕ) (leaf : Bool) (n i : ℕ) (b' : List ℕ) : Type 0 where
  pub node : NodeIs b' leaf n (count_in b n - 1) (closed (range_in b n) i) (closed (child_in b n) (i + 1))
  pub others : (m : ℕ) → (m ≡ n → ⊥) → SameNode b b' m
  pub root : get_or b' 0 0 ≡ get_or b 0 0

-- node n with range s at place i
pub record Ranged (b : List ℕ) (leaf : Bool) (n i : ℕ) (s : Range) (b' : List ℕ) : Type 0 where
  pub node : NodeIs b' leaf n (count_in b n) (placed (range_in b n) i s) (child_in b n)
  pub others : (m : ℕ) → (m ≡ n → ⊥) → SameNode b b' m
  pub root : get_or b' 0 0 ≡ get_or b 0 0

-- a subtree whose root has a range, with no number twice
pub record Loose (b : List ℕ) (h n : ℕ) : Type 0 where
  pub least : ℕ
  pub some : 1 ≤ least
  pub stands : Stands b h least n
  pub once : (m : ℕ) → occ m (nodes h (tree_at b h n)) ≤ 1

-- by levels, as the code has them
unfoldable pub take_level : ℕ → (h : ℕ) → Tree h → Taken (Tree h)
take_level c zero t = record { range = no_range; left = t }
take_level c (suc h) t = take_at c h t

-- s is taken out of the subtree of height h at node n, by BASE c; of its nodes some are freed, those beside the way keep their words, and no other is written
pub record Took (b : List ℕ) (c h n : ℕ) (s : Range) (b' : List ℕ) : Type 0 where
  pub range : s ≡ (take_level c h (tree_at b h n)).range
  pub tree : tree_at b' h n ≡ (take_level c h (tree_at b h n)).left
  pub stands : (least : ℕ) → Stands b h (suc least) n → Stands b' h least n
  pub fewer : (m : ℕ) → occ m (nodes h (tree_at b' h n)) ≤ occ m (nodes h (tree_at b h n))
  pub freed : (m : ℕ) → 1 ≤ occ m (nodes h (tree_at b h n)) → occ m (nodes h (tree_at b' h n)) ≡ 0 → zeros_in b' m 0 24 ≡ true
  pub stay : (m : ℕ) → 1 ≤ occ m (nodes h (tree_at b h n)) → occ m (removal_way c h (tree_at b h n)) ≡ 0 → SameNode b b' m
  pub others : (m : ℕ) → occ m (nodes h (tree_at b h n)) ≡ 0 → SameNode b b' m
  pub root : get_or b' 0 0 ≡ get_or b 0 0

-- a node of height h + 1 out of whose child i a range was taken
pub record Unsettled (b : List ℕ) (h n i : ℕ) : Type 0 where
  pub place : i ≤ count_in b n
  pub some : 1 ≤ count_in b n
  pub child : Stands b h 1 (child_in b n i)
  pub rest : (j : ℕ) → j ≤ count_in b n → (j ≡ i → ⊥) → Stands b h 2 (child_in b n j)
  pub number : n ≤ 63
  pub few : count_in b n ≤ 4
  pub flag : leaf_in b n ≡ leaf_word (eqb h 0)
  pub no-ranges : zeros_in b n (2 + count_in b n * 4) 18 ≡ true
  pub no-children : zeros_in b n (18 + kids (eqb h 0) (count_in b n)) 24 ≡ true
  pub once : (m : ℕ) → occ m (nodes (suc h) (tree_at b (suc h) n)) ≤ 1

-- if range i has BASE c, `got` stands in its place and it is the one taken; then child i and its neighbour are mended
pub record Settled (b : List ℕ) (h n i c : ℕ) (got s : Range) (b' : List ℕ) : Type 0 where
  pub range : s ≡ cond (found_at (range_in b n) c (count_in b n) i) (range_in b n i) got
  pub mid : List ℕ
  pub ranged : Ranged b false n i (cond (found_at (range_in b n) c (count_in b n) i) got (range_in b n i)) mid
  pub mends : Mended mid h n (within (count_in b n) i) b'

-- the root n goes, and v is the root's number
pub record RootGone (b : List ℕ) (n v : ℕ) (b' : List ℕ) : Type 0 where
  pub gone : zeros_in b' n 0 24 ≡ true
  pub others : (m : ℕ) → (m ≡ n → ⊥) → SameNode b b' m
  pub root : get_or b' 0 0 ≡ v
