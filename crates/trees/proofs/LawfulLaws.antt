-- A walk that found all lawful: the ranges ascend, and a search over the words is one in the tree that they are.
use mathlib.Core.Path.{◌≡◌, refl, sym, ap}
use mathlib.Core.Bool.{true, false, ◌&&◌}
use mathlib.Core.List.{List, ◌++◌, append-nil}
use Prim.Native.Nat.{ℕ, zero, suc, ◌≤◌}
use native.Mathlib.Omega.{arith}
use lib.Dec.{leb, ltb, eqb}
use borrow.Author.Tests.{leb-true}
use Rattle.words.proofs.Cases.{by-test, and-true, true-false}
use Rattle.words.specs.Searches.{all_from}
use Rattle.std.specs.Prelude.{Option, Some, None}
use Rattle.std.proofs.lemmas.Option.{none-some, same_Some}
use Rattle.trees.specs.declared.Range.{Range}
use Rattle.trees.specs.declared.Walk.{Walk}
use Rattle.trees.specs.Ranges.{proper}
use Rattle.trees.specs.Nodes.{root_in, count_in, leaf_in, range_in, child_in}
use Rattle.trees.specs.Trees.{along, in_row, contents, branches, tree_at, height_from, height_of, contents_of}
use Rattle.trees.specs.Inner.Spans.{Between, none, Proper, none_yet, and_one}
use Rattle.trees.specs.Inner.Walk.{met, passed, enters, visit_from, visit, free_fits, start, walked, came_through, lawful}
use Rattle.trees.specs.Inner.Search.{first_behind, search_tree}
use Rattle.trees.proofs.CheckLaws.{through}
use Rattle.trees.proofs.SearchLaws.{tree-search}
use Rattle.trees.proofs.RangeLaws.{together, lower, higher, proper-some, proper-append}

-- a range that was passed
pub record Passed (w : Walk) (r : Range) (w' : Walk) : Type 0 where
  pub after : w.low ≤ r.base
  pub is : proper r ≡ true
  pub low : w'.low ≡ r.limit
  pub seen : w'.seen ≡ w.seen

pub passes : (w : Walk) (r : Range) (w' : Walk) → passed w r ≡ Some w' → Passed w r w'
unfolding passed
passes w r w' t =
    by-test (leb w.low r.base && proper r)
    (λ e. let d = same_Some (record { low = r.limit; seen = w.seen }) w' (rw e at t) in
    record {
      after = leb-true _ _ (and-true (leb w.low r.base) (proper r) e).0;
      is = (and-true (leb w.low r.base) (proper r) e).1;
      low = ap (λ (x : Walk). x.low) (sym d);
      seen = ap (λ (x : Walk). x.seen) (sym d);
    })
    (λ e. absurd (none-some w' (rw e at t)))

-- a subtree that was walked and found lawful
pub record Sound (b : List ℕ) (h n : ℕ) (w w' : Walk) : Type 0 where
  pub between : Between w.low (contents h (tree_at b h n)) w'.low
  pub propers : Proper (contents h (tree_at b h n))

pub record RowSound (b : List ℕ) (h n k i : ℕ) (w w' : Walk) : Type 0 where
  pub between : Between w.low (contents h (tree_at b h (child_in b n i)) ++ along (contents h) (branches (range_in b n) (λ j. tree_at b h (child_in b n j)) k i)) w'.low
  pub propers : Proper (contents h (tree_at b h (child_in b n i)) ++ along (contents h) (branches (range_in b n) (λ j. tree_at b h (child_in b n j)) k i))

-- the walk along a node's ranges, where the walk of a child is sound
module _ (b : List ℕ) (h n : ℕ) (known : (c : ℕ) (w w' : Walk) → visit b h 2 c w ≡ Some w' → Sound b h c w w') where
  row-sound : (k i : ℕ) (w w' : Walk) → visit_from (visit b h 2) b n k i w ≡ Some w' → RowSound b h n k i w w'
  unfolding visit_from along branches
  row-sound zero i w w' t =
      let s = known (child_in b n i) w w' t in
      record { between = rw (append-nil (contents h (tree_at b h (child_in b n i)))) s.between; propers = rw (append-nil (contents h (tree_at b h (child_in b n i)))) s.propers }
  row-sound (suc k) i w w' t =
      let u = through (visit b h 2) b n k i w w' t in
      let r : Range = range_in b n i in
      let q = row-sound k (suc i) u.next w' u.rest in
      let x = passes u.child r u.next u.pass in
      let s = known (child_in b n i) w u.child u.below in
      let a : List Range = contents h (tree_at b h (child_in b n i)) in
      let c : List Range = contents h (tree_at b h (child_in b n (suc i))) ++ along (contents h) (branches (range_in b n) (λ j. tree_at b h (child_in b n j)) k (suc i)) in
      let p8 = proper-some r x.is in
      record {
        between = together w.low a r c _ (record { left = higher r.base x.after s.between; some = omega arith; right = let e = x.low in lower r.limit (omega arith) q.between });
        propers = proper-append s.propers (and_one x.is q.propers);
      }

pub visit-sound : (b : List ℕ) (h least n : ℕ) (w w' : Walk) → visit b h least n w ≡ Some w' → Sound b h n w w'
unfolding visit tree_at contents in_row met
visit-sound b zero least n w w' t = record { between = let g : w.low ≤ w'.low = (let d = ap (λ (x : Walk). x.low) (same_Some w w' t) in omega arith) in none g; propers = none_yet }
visit-sound b (suc h) least n w w' t =
    by-test (enters b (eqb h 0) least n w)
    (λ e. let q = row-sound b h n (λ c v v' s. visit-sound b h 2 c v v' s) (count_in b n) 0 (met w n) w' (rw e at t) in
    record { between = q.between; propers = q.propers })
    (λ e. absurd (none-some w' (rw e at t)))

-- at most four levels
pub height-from-le : (b : List ℕ) (k n : ℕ) → height_from b k n ≤ k
unfolding height_from
height-from-le b zero n = omega arith
height-from-le b (suc k) n =
    by-test (ltb 63 n) (λ e. rw e (omega arith))
    (λ e. by-test (eqb (leaf_in b n) 1) (λ d. rw (e, d) (omega arith)) (λ d. rw (e, d) (let g = height-from-le b k (child_in b n 0) in omega arith)))

pub height-le : (b : List ℕ) → height_of b ≤ 4
unfolding height_of
height-le b = by-test (eqb (root_in b) 64) (λ e. rw e (omega arith)) (λ e. rw e (height-from-le b 4 (root_in b)))

-- the walk over a lawful tree came through
pub record Came (b : List ℕ) (o : Option Walk) : Type 0 where
  pub walk : Walk
  pub is : o ≡ Some walk
  pub free : all_from 64 0 (free_fits b walk.seen) ≡ true

came : (b : List ℕ) (o : Option Walk) → came_through b o ≡ true → Came b o
unfolding came_through
came b None e = true-false false e refl
came b (Some w) e = record { walk = w; is = refl; free = e }

-- the ranges of a lawful tree
module _ (b : List ℕ) (is : lawful b ≡ true) where
  pub walk-came : Came b (walked b)
  unfolding lawful
  walk-came = came b (walked b) is

  walk-sound : Sound b (height_of b) (root_in b) start walk-came.walk
  unfolding walked
  walk-sound = visit-sound b (height_of b) 1 (root_in b) start walk-came.walk walk-came.is

  pub lawful-between : Between 0 (contents_of b) walk-came.walk.low
  unfolding contents_of start
  lawful-between = walk-sound.between

  pub lawful-proper : Proper (contents_of b)
  unfolding contents_of
  lawful-proper = walk-sound.propers

  -- the search finds the first range behind the page
  pub lawful-range : (p : ℕ) → (search_tree (height_of b) (tree_at b (height_of b) (root_in b)) p).range ≡ first_behind p (contents_of b)
  unfolding contents_of start
  lawful-range p = tree-search (height_of b) (tree_at b (height_of b) (root_in b)) p 0 walk-came.walk.low walk-sound.between
