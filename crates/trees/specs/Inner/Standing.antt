-- What a buffer holds, said of its nodes: what the inner functions ask and promise.
use Rattle.std.specs.Prelude.{◌≡◌, Bool, true, cond, List, ◌++◌, Option, None, MatchOption, ℕ, zero, suc, ◌+◌, ◌*◌, ◌≤◌, ◌<◌, eqb, length, get_or, drop}
use Rattle.trees.specs.declared.Range.{Range}
use Rattle.trees.specs.declared.Up.{Up}
use Rattle.trees.specs.Nodes.{count_in, leaf_in, range_in, child_in, leaf_word, no_range, no_root, SameNode}
use Rattle.trees.specs.Trees.{Tree, nodes, tree_at, occ}
use Rattle.trees.specs.Insertion.{Grown, whole, parts, insert_at, passing, insertion_way}
use Rattle.trees.specs.Inner.Walk.{zeros_in, kids}
use Rattle.trees.specs.Inner.Places.{opened}

-- the words of node n are f 0, .., f 23, and every other word is as it was
pub record Put (b : List ℕ) (n : ℕ) (f : ℕ → ℕ) (b' : List ℕ) : Type 0 where
  pub inside : (j : ℕ) → j < 24 → get_or b' (1 + n * 24 + j) 0 ≡ f j
  pub below : (g : ℕ) → g < 1 + n * 24 → get_or b' g 0 ≡ get_or b g 0
  pub above : (g : ℕ) → 1 + n * 24 + 24 ≤ g → get_or b' g 0 ≡ get_or b g 0

-- node n has k ranges, r gives them and c its children, and zeros where it has nothing
pub record NodeIs (b : List ℕ) (leaf : Bool) (n k : ℕ) (r : ℕ → Range) (c : ℕ → ℕ) : Type 0 where
  pub amount : count_in b n ≡ k
  pub flag : leaf_in b n ≡ leaf_word leaf
  pub ranges : (i : ℕ) → i < k → range_in b n i ≡ r i
  pub children : (i : ℕ) → i < kids leaf k → child_in b n i ≡ c i
  pub no-ranges : zeros_in b n (2 + k * 4) 18 ≡ true
  pub no-children : zeros_in b n (18 + kids leaf k) 24 ≡ true

-- the subtree of height h at node n: each node's number, count and words fit; the children of a node are the trees at its child words
abbrev pub Stands : List ℕ → ℕ → ℕ → ℕ → Type 0
Stands b zero least n = Unit {0}
Stands b (suc h) least n =
    record {
      number : n ≤ 63;
      enough : least ≤ count_in b n;
      few : count_in b n ≤ 4;
      flag : leaf_in b n ≡ leaf_word (eqb h 0);
      no-ranges : zeros_in b n (2 + count_in b n * 4) 18 ≡ true;
      no-children : zeros_in b n (18 + kids (eqb h 0) (count_in b n)) 24 ≡ true;
      below : (i : ℕ) → i ≤ count_in b n → Stands b h 2 (child_in b n i);
    }

-- the numbers of the nodes that have no ranges, ascending
unfoldable pub free_list : List ℕ → List ℕ
free_list b = passing 64 0 (λ m. eqb (count_in b m) 0)

unfoldable pub free_number : List ℕ → ℕ → ℕ
free_number b k = get_or (free_list b) k no_root

abbrev pub free_count : List ℕ → ℕ
free_count b = length (free_list b)

-- the numbers of the nodes of one subtree or two
unfoldable pub grown_nodes : (h : ℕ) → Grown (Tree h) → List ℕ
grown_nodes h (whole t) = nodes h t
grown_nodes h (parts a s c) = nodes h a ++ nodes h c

-- what an insertion into the subtree of height h at node n asks: the subtree stands, no node is in it twice, and there are nodes to take
pub record Ready (b : List ℕ) (h n : ℕ) (r : Range) : Type 0 where
  pub least : ℕ
  pub some : 1 ≤ least
  pub stands : Stands b h least n
  pub once : (m : ℕ) → occ m (nodes h (tree_at b h n)) ≤ 1
  pub room : length (grown_nodes h (insert_at (free_number b) r h (tree_at b h n))) ≤ length (nodes h (tree_at b h n)) + free_count b

-- Adding range s and node x at place i of node n

-- it has room
pub record Absorbed (b : List ℕ) (leaf : Bool) (n i : ℕ) (s : Range) (x : ℕ) (o : Option Up) (b' : List ℕ) : Type 0 where
  pub nothing : o ≡ None
  pub node : NodeIs b' leaf n (count_in b n + 1) (opened (range_in b n) i s) (opened (child_in b n) (i + 1) x)
  pub others : (m : ℕ) → (m ≡ n → ⊥) → SameNode b b' m
  pub root : get_or b' 0 0 ≡ get_or b 0 0

-- it has four ranges: two stay, the middle goes up, two go to a node newly taken, the lowest unused one
pub record Halved (b : List ℕ) (leaf : Bool) (n i : ℕ) (s : Range) (x : ℕ) (u : Up) (b' : List ℕ) : Type 0 where
  pub range : u.range ≡ opened (range_in b n) i s 2
  pub number : u.node ≤ 63
  pub taken : count_in b u.node ≡ 0
  pub lowest : u.node ≡ free_number b 0
  pub left : NodeIs b' leaf n 2 (opened (range_in b n) i s) (opened (child_in b n) (i + 1) x)
  pub right : NodeIs b' leaf u.node 2 (λ j. opened (range_in b n) i s (3 + j)) (λ j. opened (child_in b n) (i + 1) x (3 + j))
  pub others : (m : ℕ) → (m ≡ n → ⊥) → (m ≡ u.node → ⊥) → SameNode b b' m
  pub root : get_or b' 0 0 ≡ get_or b 0 0

pub record Widened (b : List ℕ) (leaf : Bool) (n i : ℕ) (s : Range) (x : ℕ) (o : Option Up) (b' : List ℕ) : Type 0 where
  pub fits : count_in b n ≤ 3 → Absorbed b leaf n i s x o b'
  pub over : count_in b n ≡ 4 → MatchOption o ⊥ (λ u. Halved b leaf n i s x u b')

-- What an insertion leaves

-- the subtree was parted, and u goes up
pub record Parted (b : List ℕ) (h n : ℕ) (u : Up) (b' : List ℕ) (a : Tree h) (s : Range) (c : Tree h) : Type 0 where
  pub range : u.range ≡ s
  pub left : tree_at b' h n ≡ a
  pub right : tree_at b' h u.node ≡ c
  pub stands : Stands b' h 2 n
  pub behind : Stands b' h 2 u.node
  -- a node is taken on each level, the lowest unused one
  pub free : free_list b' ≡ drop h (free_list b)

abbrev pub Result : List ℕ → (h : ℕ) → ℕ → Option Up → List ℕ → Grown (Tree h) → Type 0
Result b h n o b' (whole t) = record { nothing : o ≡ None; tree : tree_at b' h n ≡ t; stands : (least : ℕ) → Stands b h least n → Stands b' h least n }
Result b h n o b' (parts a s c) = MatchOption o ⊥ (λ u. Parted b h n u b' a s c)

pub record Grew (b : List ℕ) (h n : ℕ) (r : Range) (o : Option Up) (b' : List ℕ) : Type 0 where
  pub result : Result b h n o b' (insert_at (free_number b) r h (tree_at b h n))
  -- of the nodes of before only those on the way are written, and none that is outside now
  pub stay : (m : ℕ) → 1 ≤ occ m (nodes h (tree_at b h n)) → occ m (insertion_way r.base h (tree_at b h n)) ≡ 0 → SameNode b b' m
  pub others : (m : ℕ) → occ m (grown_nodes h (insert_at (free_number b) r h (tree_at b h n))) ≡ 0 → SameNode b b' m
  pub root : get_or b' 0 0 ≡ get_or b 0 0

-- a line of the ranges and children of node n, with s and x at place i
pub record OpenedLine (b : List ℕ) (n i : ℕ) (s : Range) (x : ℕ) (ranges : List Range) (below : List ℕ) : Type 0 where
  pub range : (j : ℕ) → j < 5 → get_or ranges j no_range ≡ opened (range_in b n) i s j
  pub child : (j : ℕ) → j < 6 → get_or below j 0 ≡ opened (child_in b n) (i + 1) x j

-- a new root: the lowest unused node, with one range and two children
pub record NewRoot (b : List ℕ) (leaf : Bool) (s : Range) (x y : ℕ) (b' : List ℕ) : Type 0 where
  pub place : ℕ
  pub number : place ≤ 63
  pub unused : count_in b place ≡ 0
  pub lowest : place ≡ free_number b 0
  pub node : NodeIs b' leaf place 1 (λ j. s) (λ j. cond (eqb j 0) x y)
  pub others : (m : ℕ) → (m ≡ place → ⊥) → SameNode b b' m
  pub root : get_or b' 0 0 ≡ place
