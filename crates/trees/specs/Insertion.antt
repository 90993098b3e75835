-- Insertion into a tree. Document 02, Change 7: "Which lawful tree results is open and entered in docs/": docs/DECISIONS.md, 121.
-- The range goes to a leaf. On the way back a node with five ranges is parted: two stay, the middle one goes up, two go to a node newly taken, the lowest unused one.
use Rattle.std.specs.Prelude.{Bool, cond, List, [], ◌∷◌, ℕ, zero, suc, leb, ltb, eqb, length, get_or, take, drop}
use Rattle.trees.specs.declared.Range.{Range}
use Rattle.trees.specs.Nodes.{no_root}
use Rattle.trees.specs.Trees.{Branch, Row, Node, Tree, Rooted, nodes, occ}

-- a subtree, or two with a range between them
pub data Grown (A : Type 0) : Type 0 where
  whole : A → Grown A
  parts : A → Range → A → Grown A

-- in a row, in front of some branches
unfoldable pub spread : {A : Type 0} → Grown A → List (Branch A) → Row A
spread (whole a) bs = record { first = a; rest = bs }
spread (parts a s c) bs = record { first = a; rest = record { range = s; child = c } ∷ bs }

-- a child and a range in front of a row
unfoldable pub before : {A : Type 0} → A → Range → Row A → Row A
before a s w = record { first = a; rest = record { range = s; child = w.first } ∷ w.rest }

-- the branches ys stay in node n, the next one's range goes up, the others go to node m; there always is a next one (`parted`)
unfoldable pub cut : {A : Type 0} → ℕ → ℕ → A → List (Branch A) → List (Branch A) → Grown (Node A)
cut n m a ys [] = whole (record { number = n; row = record { first = a; rest = ys } })
cut n m a ys (x ∷ xs) = parts (record { number = n; row = record { first = a; rest = ys } }) x.range (record { number = m; row = record { first = x.child; rest = xs } })

-- a row in node n where it fits, or else parted over n and m
unfoldable pub parted : {A : Type 0} → ℕ → ℕ → Row A → Grown (Node A)
parted n m w = cond (leb (length w.rest) 4) (whole (record { number = n; row = w })) (cut n m w.first (take 2 w.rest) (drop 2 w.rest))

-- what g makes of the child that BASE b belongs to: before the first range with a higher BASE
unfoldable pub insert_row : {A : Type 0} → (A → Grown A) → ℕ → A → List (Branch A) → Row A
insert_row g b a [] = spread (g a) []
insert_row g b a (x ∷ xs) = cond (ltb b x.range.base) (spread (g a) (x ∷ xs)) (before a x.range (insert_row g b x.child xs))

-- f gives the numbers of the nodes to take, f 0 for a leaf, f 1 for a node above leaves, and so on: a node is parted only where one on each level below it is
unfoldable pub insert_at : (ℕ → ℕ) → Range → (h : ℕ) → Tree h → Grown (Tree h)
insert_at f r zero t = parts tt r tt
insert_at f r (suc h) t = parted t.number (f h) (insert_row (insert_at f r h) r.base t.row.first t.row.rest)

-- a new root over two parts; in an empty tree, where h is 0, it is the first leaf
unfoldable pub topped : (ℕ → ℕ) → (h : ℕ) → Grown (Tree h) → Rooted
topped f h (whole t) = record { height = h; tree = t }
topped f h (parts a s c) = record { height = suc h; tree = record { number = f h; row = record { first = a; rest = record { range = s; child = c } ∷ [] } } }

-- of i, i + 1, .. , i + n - 1 those that pass
unfoldable pub passing : ℕ → ℕ → (ℕ → Bool) → List ℕ
passing zero i p = []
passing (suc n) i p = cond (p i) (i ∷ passing n (suc i) p) (passing n (suc i) p)

-- the numbers that no node has, ascending: the lowest is taken first
unfoldable pub unused_numbers : Rooted → List ℕ
unused_numbers t = passing 64 0 (λ m. eqb (occ m (nodes t.height t.tree)) 0)

-- a lawful tree leaves enough of them (statement: `InsertionFixed`)
unfoldable pub taken_number : Rooted → ℕ → ℕ
taken_number t k = get_or (unused_numbers t) k no_root

unfoldable pub insert_tree : Range → Rooted → Rooted
insert_tree r t = topped (taken_number t) t.height (insert_at (taken_number t) r t.height t.tree)

-- the nodes on the way of an insertion of BASE b, from the topmost down to a leaf: of the nodes in use only these are written
unfoldable pub way_along : {A : Type 0} → (A → List ℕ) → ℕ → A → List (Branch A) → List ℕ
way_along f b a [] = f a
way_along f b a (x ∷ xs) = cond (ltb b x.range.base) (f a) (way_along f b x.child xs)

unfoldable pub insertion_way : ℕ → (h : ℕ) → Tree h → List ℕ
insertion_way b zero t = []
insertion_way b (suc h) t = t.number ∷ way_along (insertion_way b h) b t.row.first t.row.rest
