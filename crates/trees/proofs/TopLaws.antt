-- The whole tree: a lawful buffer stands, an insertion can go into it, and what it leaves is lawful.
use mathlib.Core.Path.{◌≡◌, refl, sym, ap, ◌∙◌}
use mathlib.Core.Bool.{Bool, true, false}
use mathlib.Core.List.{List}
use Prim.Native.Nat.{ℕ, zero, suc, ◌+◌, ◌*◌, ◌≤◌, ◌<◌}
use native.Mathlib.Omega.{arith}
use native.Mathlib.Decide.{dec_lt}
use lib.Dec.{eqb}
use lib.ListN.{length, get_or, replicate, length-replicate, get_or-replicate, get_or-eq_default}
use borrow.Author.Tests.{eq-eqb, ne_eqb, eqb-true, le-ltb}
use Rattle.words.specs.Inner.{same_in}
use Rattle.words.proofs.Cases.{by-dec}
use Rattle.words.proofs.SearchLaws.{all_from_at, at-all_from}
use Rattle.std.specs.Prelude.{Some}
use Rattle.trees.specs.Nodes.{root_in, count_in, leaf_in, child_in, leaf_word}
use Rattle.trees.specs.Trees.{Tree, contents, nodes, tree_at, height_from, height_of, occ}
use Rattle.trees.specs.Inner.Spans.{Between, Proper}
use Rattle.trees.specs.Inner.Walk.{zeros_in, visit, start, walked, free_fits, lawful}
use Rattle.trees.specs.Inner.Search.{search_tree}
use Rattle.trees.specs.Inner.Standing.{Stands}
use Rattle.trees.proofs.SearchLaws.{stands-less}
use Rattle.trees.proofs.CheckLaws.{free-zero, free-met, lawful-rest}
use Rattle.trees.proofs.LawfulLaws.{walk-came}
use Rattle.trees.proofs.MarkLaws.{Marked, Walked, visit-walked, Lawfully, visit-found}

-- A lawful buffer

start-size : length start.seen ≡ 64
unfolding start
start-size = length-replicate {A = Bool} 64 false

pub start-zero : (m : ℕ) → get_or start.seen m false ≡ false
unfolding start
start-zero m = by-dec (dec_lt m 64) (λ l. get_or-replicate {A = Bool} 64 m false false l) (λ l. out m (omega arith))
  where
    out : (k : ℕ) → 64 ≤ k → ◌≡◌ {A = Bool} (get_or (replicate 64 false) k false) false
    out k l = let g : length {A = Bool} (replicate 64 false) ≤ k = (let e = length-replicate {A = Bool} 64 false in omega arith) in get_or-eq_default {A = Bool} (replicate 64 false) false g

module _ (b : List ℕ) (is : lawful b ≡ true) where
  abbrev Whole : Tree (height_of b)
  Whole = tree_at b (height_of b) (root_in b)

  walk_is : Walked b (height_of b) 1 (root_in b) start (walk-came b is).walk
  unfolding walked
  walk_is = visit-walked b (height_of b) 1 (root_in b) start (walk-came b is).walk start-size (walk-came b is).is

  pub top-stands : Stands b (height_of b) 1 (root_in b)
  top-stands = walk_is.stands

  pub top-once : (m : ℕ) → occ m (nodes (height_of b) Whole) ≤ 1
  top-once m = walk_is.marked.once m

  pub top-free : (m : ℕ) → m < 64 → occ m (nodes (height_of b) Whole) ≡ 0 → zeros_in b m 0 24 ≡ true
  top-free m l z =
      let w = walk-came b is in
      let a = all_from_at 64 0 (free_fits b w.walk.seen) w.free m (omega arith) (omega arith) in
      sym (free-zero b w.walk.seen m (walk_is.marked.others m z ∙ start-zero m) (zeros_in b m 0 24) refl) ∙ a

-- a node of zeros is unused
pub zeros-unused : (b : List ℕ) (m : ℕ) → zeros_in b m 0 24 ≡ true → count_in b m ≡ 0
unfolding zeros_in count_in same_in
zeros-unused b m t = eqb-true _ _ (all_from_at 24 (1 + m * 24 + 0) (λ g. eqb (get_or b g 0) 0) t (1 + m * 24) (omega arith) (omega arith))

-- A buffer that is lawful

flag-leaf : leaf_word (eqb 0 0) ≡ 1
unfolding leaf_word
flag-leaf = refl

flag-inner : (h : ℕ) → leaf_word (eqb (suc h) 0) ≡ 0
unfolding leaf_word
flag-inner h = rw (ne_eqb (suc h) 0 (λ e. omega arith))

height-stands : (b : List ℕ) (k h least n : ℕ) → Stands b (suc h) least n → suc h ≤ k → height_from b k n ≡ suc h
unfolding height_from
height-stands b zero h least n s l = absurd (omega arith)
height-stands b (suc k) zero least n s l = rw (le-ltb 63 n s.number, eq-eqb (leaf_in b n) 1 (s.flag ∙ flag-leaf))
height-stands b (suc k) (suc h) least n s l =
    let f : leaf_in b n ≡ 0 = s.flag ∙ flag-inner h in
    let i = height-stands b k h 2 (child_in b n 0) (s.below 0 (omega arith)) (omega arith) in
    rw (le-ltb 63 n s.number, ne_eqb (leaf_in b n) 1 (λ e. omega arith)) (omega arith)

pub stands-high : (b : List ℕ) (h n : ℕ) → root_in b ≡ n → suc h ≤ 4 → Stands b (suc h) 1 n → height_of b ≡ suc h
unfolding height_of
stands-high b h n root deep s = let l = s.number in rw (ne_eqb (root_in b) 64 (λ e. omega arith)) (ap (height_from b 4) root ∙ height-stands b 4 h 1 n s deep)

module _ (b : List ℕ) (h n hi : ℕ) (root : root_in b ≡ n) (deep : suc h ≤ 4) (stands : Stands b (suc h) 1 n) (once : (m : ℕ) → occ m (nodes (suc h) (tree_at b (suc h) n)) ≤ 1)
    (between : Between 0 (contents (suc h) (tree_at b (suc h) n)) hi) (propers : Proper (contents (suc h) (tree_at b (suc h) n))) (free : (m : ℕ) → m < 64 → occ m (nodes (suc h) (tree_at b (suc h) n)) ≡ 0 → zeros_in b m 0 24 ≡ true) where
  found : Lawfully (visit b (suc h) 1 n start) hi
  found = visit-found b (suc h) 1 n start hi stands once (λ m l. start-zero m) start-size (unfold start in between) propers

  walked-is : Some found.walk ≡ walked b
  unfolding walked
  walked-is = rw (stands-high b h n root deep stands, root) (sym found.is)

  marked : Marked start.seen (nodes (suc h) (tree_at b (suc h) n)) found.walk.seen
  marked = (visit-walked b (suc h) 1 n start found.walk start-size found.is).marked

  pub is_lawful_lem : lawful b ≡ true
  is_lawful_lem =
      sym (lawful-rest b found.walk walked-is)
      ∙ at-all_from 64 0 (free_fits b found.walk.seen)
      (λ m lo up. by-dec (dec_lt 0 (occ m (nodes (suc h) (tree_at b (suc h) n))))
      (λ l. free-met b found.walk.seen m (marked.marks m l))
      (λ l. let z : occ m (nodes (suc h) (tree_at b (suc h) n)) ≡ 0 = omega arith in free-zero b found.walk.seen m (marked.others m z ∙ start-zero m) true (free m (omega arith) z)))

-- The search from the root that the code has read

pub top-searched : (b : List ℕ) → lawful b ≡ true → (h n : ℕ) → h ≡ height_of b → n ≡ root_in b → Stands b h 0 n
top-searched b is h n e d = rw (e, d) (stands-less b (height_of b) 1 0 (root_in b) (omega arith) (top-stands b is))

pub searched-from : (b : List ℕ) (h n p : ℕ) → h ≡ height_of b → n ≡ root_in b → search_tree h (tree_at b h n) p ≡ search_tree (height_of b) (tree_at b (height_of b) (root_in b)) p
searched-from b h n p e d = rw (e, d)
