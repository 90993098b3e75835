-- The search in a tree finds the first range of its list that ends behind the page, and visits the nodes of its path, no more than the tree is high.
use mathlib.Core.Path.{◌≡◌, refl, sym, ap, ◌∙◌}
use mathlib.Core.List.{List, [], ◌∷◌, ◌++◌, append-nil}
use Prim.Native.Nat.{ℕ, zero, suc, ◌+◌, ◌-◌, ◌≤◌, ◌<◌}
use native.Mathlib.Omega.{arith}
use lib.Dec.{leb, ltb}
use borrow.Author.Tests.{ltb-true, ltb-false, leb-true, leb-false, le-leb, lt-leb, le-ltb, lt-ltb}
use Rattle.words.proofs.Cases.{by-test}
use Rattle.std.specs.Prelude.{Some, unwrap_or}
use Rattle.trees.specs.declared.Range.{Range}
use Rattle.trees.specs.declared.Path.{Path}
use Rattle.trees.specs.Nodes.{count_in, range_in, child_in}
use Rattle.trees.specs.Trees.{Branch, Tree, along, in_row, contents, branches, tree_at, path_along, path_length}
use Rattle.trees.specs.Inner.Spans.{Between, one}
use Rattle.trees.specs.Inner.Search.{first_behind, nowhere, hit, further, or_else, slot_behind, search_along, search_tree}
use Rattle.trees.specs.Inner.Places.{first_at}
use Rattle.trees.specs.Inner.Standing.{Stands}
use Rattle.trees.proofs.RangeLaws.{around, between_le}

-- The first range behind a page, in a list that ascends

module _ (p : ℕ) (r : Range) (ys : List Range) (some : r.base < r.limit) where
  pass : (l : ℕ) (xs : List Range) → Between l xs r.base → r.base ≤ p → first_behind p (xs ++ r ∷ ys) ≡ first_behind p (r ∷ ys)
  unfolding first_behind
  pass l [] m h = refl
  pass l (x ∷ xs) (one a b m) h = let k = between_le m in rw (le-ltb p x.limit (omega arith)) (pass x.limit xs m h)

  behind-right : (l : ℕ) (xs : List Range) → Between l xs r.base → r.limit ≤ p → first_behind p (xs ++ r ∷ ys) ≡ first_behind p ys
  unfolding first_behind
  behind-right l xs m h = pass l xs m (omega arith) ∙ rw (le-ltb p r.limit h)

  behind-here : (l : ℕ) (xs : List Range) → Between l xs r.base → r.base ≤ p → p < r.limit → first_behind p (xs ++ r ∷ ys) ≡ Some r
  unfolding first_behind
  behind-here l xs m h k = pass l xs m h ∙ rw (lt-ltb p r.limit k)

  behind-left : (l : ℕ) (xs : List Range) → Between l xs r.base → p < r.base → first_behind p (xs ++ r ∷ ys) ≡ Some (unwrap_or (first_behind p xs) r)
  unfolding first_behind
  behind-left l [] m h = rw (lt-ltb p r.limit (omega arith))
  behind-left l (x ∷ xs) (one a b m) h =
      by-test (ltb p x.limit) (λ e. rw e) (λ e. rw e (behind-left x.limit xs m h))

-- in a row whose children are searched as lists are
module _ {A : Type 0} (f : A → Path) (g : A → List Range) (p : ℕ) (known : (c : A) (lo hi : ℕ) → Between lo (g c) hi → (f c).range ≡ first_behind p (g c)) where
  along-search : (a : A) (bs : List (Branch A)) (lo hi : ℕ) → Between lo (g a ++ along g bs) hi → (search_along f p a bs).range ≡ first_behind p (g a ++ along g bs)
  unfolding along search_along hit or_else
  along-search a [] lo hi m = rw (append-nil (g a)) (known a lo hi (rw (append-nil (g a)) at m))
  along-search a (x ∷ xs) lo hi m =
      let q = around lo (g a) x.range (g x.child ++ along g xs) hi m in
      let ys : List Range = g x.child ++ along g xs in
      by-test (ltb p x.range.limit)
      (λ e. by-test (leb x.range.base p)
      (λ d. rw (e, d) (sym (behind-here p x.range ys q.some lo (g a) q.left (leb-true _ _ d) (ltb-true _ _ e))))
      (λ d. rw (e, d, known a lo x.range.base q.left) (sym (behind-left p x.range ys q.some lo (g a) q.left (leb-false _ _ d)))))
      (λ e. rw e (along-search x.child xs x.range.limit hi q.right ∙ sym (behind-right p x.range ys q.some lo (g a) q.left (ltb-false _ _ e))))

pub tree-search : (h : ℕ) (t : Tree h) (p lo hi : ℕ) → Between lo (contents h t) hi → (search_tree h t p).range ≡ first_behind p (contents h t)
unfolding search_tree contents in_row first_behind nowhere further
tree-search zero t p lo hi m = refl
tree-search (suc h) t p lo hi m = along-search (λ (c : Tree h). search_tree h c p) (contents h) p (λ c l k. tree-search h c p l k) t.row.first t.row.rest lo hi m

-- it visits the nodes on the page's path
module _ {A : Type 0} (f : A → Path) (g : A → ℕ) (p : ℕ) (known : (c : A) → (f c).nodes ≡ g c) where
  along-path : (a : A) (bs : List (Branch A)) → (search_along f p a bs).nodes ≡ path_along g p a bs
  unfolding search_along path_along hit or_else
  along-path a [] = known a
  along-path a (x ∷ xs) =
      by-test (ltb p x.range.limit)
      (λ e. by-test (leb x.range.base p) (λ d. rw (e, d)) (λ d. rw (e, d) (known a)))
      (λ e. rw e (along-path x.child xs))

pub tree-path : (h : ℕ) (t : Tree h) (p : ℕ) → (search_tree h t p).nodes ≡ path_length p h t
unfolding search_tree path_length nowhere further
tree-path zero t p = refl
tree-path (suc h) t p = ap (λ (x : ℕ). x + 1) (along-path (λ (c : Tree h). search_tree h c p) (path_length p h) p (λ c. tree-path h c p) t.row.first t.row.rest)

-- at most one node on each level
module _ {A : Type 0} (g : A → ℕ) (p k : ℕ) (known : (c : A) → g c ≤ k) where
  along-levels : (a : A) (bs : List (Branch A)) → path_along g p a bs ≤ k
  unfolding path_along
  along-levels a [] = known a
  along-levels a (x ∷ xs) =
      by-test (ltb p x.range.limit)
      (λ e. by-test (leb x.range.base p) (λ d. rw (e, d) (omega arith)) (λ d. rw (e, d) (known a)))
      (λ e. rw e (along-levels x.child xs))

pub path-levels : (p h : ℕ) (t : Tree h) → path_length p h t ≤ h
unfolding path_length
path-levels p zero t = omega arith
path-levels p (suc h) t = let k = along-levels (path_length p h) p h (λ c. path-levels p h c) t.row.first t.row.rest in omega arith

pub search-nodes : (h : ℕ) (t : Tree h) (p : ℕ) (d : Path) → d ≡ search_tree h t p → d.nodes ≤ h
search-nodes h t p d e = let k = ap (λ (x : Path). x.nodes) e ∙ tree-path h t p in let l = path-levels p h t in omega arith

pub or-nodes : (r : Range) (d w : Path) → d ≡ or_else r w → d.nodes ≡ w.nodes
unfolding or_else
or-nodes r d w e = ap (λ (x : Path). x.nodes) e

-- A search along a row by the place where it ends

module _ (r : ℕ → Range) (p : ℕ) where
  pub behind-le : (k i : ℕ) → slot_behind r p k i ≤ i + k
  unfolding first_at
  behind-le zero i = omega arith
  behind-le (suc k) i = by-test (ltb p (r i).limit) (λ e. rw e (omega arith)) (λ e. let g = behind-le k (suc i) in rw e (omega arith))

  module _ {A : Type 0} (f : A → Path) (T : ℕ → A) where
    -- the range there has the page
    row-hit : (k i : ℕ) → slot_behind r p k i < i + k → (r (slot_behind r p k i)).base ≤ p → search_along f p (T i) (branches r T k i) ≡ hit (r (slot_behind r p k i))
    unfolding first_at search_along branches
    row-hit zero i h l = absurd (omega arith)
    row-hit (suc k) i h l =
        by-test (ltb p (r i).limit)
        (λ e. rw (e, le-leb (r i).base p (rw e at l)))
        (λ e. rw e (row-hit k (suc i) (let g = rw e at h in omega arith) (rw e at l)))

    -- or it begins behind the page, and the child before it goes on
    row_before : (k i : ℕ) → slot_behind r p k i < i + k → p < (r (slot_behind r p k i)).base → search_along f p (T i) (branches r T k i) ≡ or_else (r (slot_behind r p k i)) (f (T (slot_behind r p k i)))
    unfolding first_at search_along branches
    row_before zero i h l = absurd (omega arith)
    row_before (suc k) i h l =
        by-test (ltb p (r i).limit)
        (λ e. rw (e, lt-leb (r i).base p (rw e at l)))
        (λ e. rw e (row_before k (suc i) (let g = rw e at h in omega arith) (rw e at l)))

    -- or there is none, and the last child goes on
    row_last : (k i : ℕ) → i + k ≤ slot_behind r p k i → search_along f p (T i) (branches r T k i) ≡ f (T (slot_behind r p k i))
    unfolding first_at search_along branches
    row_last zero i h = refl
    row_last (suc k) i h =
        by-test (ltb p (r i).limit)
        (λ e. absurd (let g = rw e at h in omega arith))
        (λ e. rw e (row_last k (suc i) (let g = rw e at h in omega arith)))

-- The search in node n by its cases, with l levels left

pub search-bottom : (b : List ℕ) (l n p : ℕ) → l ≡ 0 → nowhere ≡ search_tree l (tree_at b l n) p
unfolding search_tree
search-bottom b l n p e = rw e

module _ (b : List ℕ) (l n p : ℕ) (some : 0 < l) where
  abbrev Below : ℕ → Path
  Below c = search_tree (l - 1) (tree_at b (l - 1) c) p

  opened : search_tree l (tree_at b l n) p ≡ further (search_along (λ (t : Tree (l - 1)). search_tree (l - 1) t p) p (tree_at b (l - 1) (child_in b n 0)) (branches (range_in b n) (λ j. tree_at b (l - 1) (child_in b n j)) (count_in b n) 0))
  opened = let s : l ≡ suc (l - 1) = omega arith in rw s (level (l - 1) (suc (l - 1) - 1) (omega arith))
    where
      level : (h k : ℕ) → k ≡ h → search_tree (suc h) (tree_at b (suc h) n) p ≡ further (search_along (λ (t : Tree k). search_tree k t p) p (tree_at b k (child_in b n 0)) (branches (range_in b n) (λ j. tree_at b k (child_in b n j)) (count_in b n) 0))
      level h k e = rw e (unfold search_tree tree_at in refl)

  module _ (i : ℕ) (at : i ≡ slot_behind (range_in b n) p (count_in b n) 0) where
    pub search-end : count_in b n ≤ i → (d : Path) → d ≡ Below (child_in b n i) → further d ≡ search_tree l (tree_at b l n) p
    search-end h d k =
        ap further (k ∙ rw at (sym (row_last (range_in b n) p (λ (t : Tree (l - 1)). search_tree (l - 1) t p) (λ j. tree_at b (l - 1) (child_in b n j)) (count_in b n) 0 (let g = rw at at h in omega arith)))) ∙ sym opened

    pub search-before : i < count_in b n → p < (range_in b n i).base → (d : Path) → d ≡ Below (child_in b n i) → further (or_else (range_in b n i) d) ≡ search_tree l (tree_at b l n) p
    search-before h u d k =
        ap (λ (x : Path). further (or_else (range_in b n i) x)) k
        ∙ rw at (ap further (sym (row_before (range_in b n) p (λ (t : Tree (l - 1)). search_tree (l - 1) t p) (λ j. tree_at b (l - 1) (child_in b n j)) (count_in b n) 0 (let g = rw at at h in omega arith) (rw at at u)))) ∙ sym opened

    pub search-found : i < count_in b n → (range_in b n i).base ≤ p → further (hit (range_in b n i)) ≡ search_tree l (tree_at b l n) p
    search-found h u = rw at (ap further (sym (row-hit (range_in b n) p (λ (t : Tree (l - 1)). search_tree (l - 1) t p) (λ j. tree_at b (l - 1) (child_in b n j)) (count_in b n) 0 (let g = rw at at h in omega arith) (rw at at u)))) ∙ sym opened

-- What the search asks of its node

pub stands-less : (b : List ℕ) (h least k n : ℕ) → k ≤ least → Stands b h least n → Stands b h k n
stands-less b zero least k n l s = tt
stands-less b (suc h) least k n l s = let e = s.enough in record { number = s.number; enough = omega arith; few = s.few; flag = s.flag; no-ranges = s.no-ranges; no-children = s.no-children; below = s.below }

module _ (b : List ℕ) (l n : ℕ) where
  pub stands-level : 0 < l → Stands b l 0 n → Stands b (suc (l - 1)) 0 n
  stands-level some s = let e : l ≡ suc (l - 1) = omega arith in rw e at s
