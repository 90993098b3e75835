-- The check of a buffer finds just the words of lawful trees.
use mathlib.Core.Path.{◌≡◌, refl, sym, ap, ◌∙◌}
use mathlib.Core.Bool.{true}
use mathlib.Core.List.{List, [], ◌∷◌}
use Prim.Native.Nat.{ℕ, zero, suc, ◌+◌, ◌*◌, ◌≤◌, ◌<◌}
use native.Mathlib.Omega.{arith}
use lib.Dec.{ltb, eqb}
use lib.ListN.{length, length-append}
use borrow.Author.Tests.{eqb-true}
use Rattle.words.proofs.Cases.{by-test}
use Rattle.words.proofs.SearchLaws.{at-all_from}
use Rattle.std.specs.Prelude.{Some}
use Rattle.trees.specs.Nodes.{root_in, leaf_in}
use Rattle.trees.specs.Trees.{Branch, Tree, Rooted, along, in_row, contents, nodes, occ, Each, next, Shape, root_of, tree_words, tree_at, height_from, height_of, tree_of, contents_of}
use Rattle.trees.specs.Inner.Walk.{zeros_in, visit, start, free_fits, lawful}
use Rattle.trees.specs.Statements.{LawfulExactly, TreeReadBack, NeverAboveFour}
use Rattle.trees.specs.Inner.Holding.{Valid, Holding}
use Rattle.trees.proofs.SearchLaws.{path-levels}
use Rattle.trees.proofs.LawfulLaws.{lawful-between, lawful-proper}
use Rattle.trees.proofs.CheckLaws.{free-zero, height-empty, lawful-rest, walk_is}
use Rattle.trees.proofs.StandingLaws.{used}
use Rattle.trees.proofs.SizeLaws.{stands-shape, between-length, between-top}
use Rattle.trees.proofs.TopLaws.{start-zero, top-stands, top-once, top-free, stands-high, is_lawful_lem}
use Rattle.trees.proofs.ListLaws.{valid-lawful, lawful-valid-tree}
use Rattle.trees.proofs.WordsLaws.{holding-words, words-holding}

-- A buffer that the check finds lawful

from_some : (b : List ℕ) (k n : ℕ) → 1 ≤ height_from b (suc k) n
unfolding height_from
from_some b k n = by-test (ltb 63 n) (λ e. rw e (omega arith)) (λ e. by-test (eqb (leaf_in b n) 1) (λ d. rw (e, d) (omega arith)) (λ d. rw (e, d) (omega arith)))

-- a buffer of no height has no root
no-height : (b : List ℕ) → height_of b ≡ 0 → root_in b ≡ 64
unfolding height_of
no-height b z = by-test (eqb (root_in b) 64) (λ e. eqb-true _ _ e) (λ e. let y : height_from b 4 (root_in b) ≡ 0 = rw e at z in let x = from_some b 3 (root_in b) in absurd (omega arith))

root_is : (b : List ℕ) (h : ℕ) → height_of b ≡ h → root_in b ≡ root_of h (tree_at b h (root_in b))
unfolding root_of tree_at
root_is b zero e = no-height b e
root_is b (suc h) e = refl

lawful-holding : (b : List ℕ) → length b ≡ 1537 → lawful b ≡ true → Holding b (tree_of b)
unfolding tree_of
lawful-holding b size is = record { size = size; root = root_is b (height_of b) refl; tree = refl; stands = top-stands b is; free = top-free b is }

pub lawful-valid : (b : List ℕ) → lawful b ≡ true → Valid (tree_of b)
unfolding tree_of contents_of
lawful-valid b is = record {
  shape = stands-shape b (height_of b) 1 (root_in b) (top-stands b is);
  numbers = λ m o. (used b (height_of b) 1 (root_in b) (omega arith) (top-stands b is) m o).1;
  once = top-once b is;
  between = between-top (omega arith) (lawful-between b is) (lawful-proper b is);
  propers = lawful-proper b is;
}

-- A lawful tree has at most four levels

-- a node each of whose children has m ranges at least
module _ (h m : ℕ) (known : (s : Tree h) → Shape h 2 s → m ≤ length (contents h s)) where
  along_one : (bs : List (Branch (Tree h))) → Each (Shape h 2) bs → 1 ≤ length bs → 1 + m ≤ length (along (contents h) bs)
  unfolding along
  along_one [] q l = absurd (omega arith)
  along_one (x ∷ xs) (next p q) l = let a = known x.child p in let e = length-append (contents h x.child) (along (contents h) xs) in omega arith

  along-two : (bs : List (Branch (Tree h))) → Each (Shape h 2) bs → 2 ≤ length bs → 2 + 2 * m ≤ length (along (contents h) bs)
  unfolding along
  along-two [] q l = absurd (omega arith)
  along-two (x ∷ xs) (next p q) l = let a = known x.child p in let b = along_one xs q (omega arith) in let e = length-append (contents h x.child) (along (contents h) xs) in omega arith

  inner-least : (t : Tree (suc h)) → Shape (suc h) 2 t → 2 + 3 * m ≤ length (contents (suc h) t)
  unfolding contents in_row
  inner-least t s = let a = known t.row.first s.first in let b = along-two t.row.rest s.others s.enough in let e = length-append (contents h t.row.first) (along (contents h) t.row.rest) in omega arith

  root-least : (t : Tree (suc h)) → Shape (suc h) 1 t → 1 + 2 * m ≤ length (contents (suc h) t)
  unfolding contents in_row
  root-least t s = let a = known t.row.first s.first in let b = along_one t.row.rest s.others s.enough in let e = length-append (contents h t.row.first) (along (contents h) t.row.rest) in omega arith

-- four levels below a root have 80 ranges at least
deep-least : (h : ℕ) (t : Tree (suc (suc (suc (suc h))))) → Shape (suc (suc (suc (suc h)))) 2 t → 80 ≤ length (contents (suc (suc (suc (suc h)))) t)
deep-least zero t s = inner-least 3 26 (inner-least 2 8 (inner-least 1 2 (inner-least 0 0 (λ x q. omega arith)))) t s
deep-least (suc h) t s = let l = inner-least (suc (suc (suc (suc h)))) 80 (deep-least h) t s in omega arith

height-few : (h : ℕ) (t : Tree h) → Shape h 1 t → length (contents h t) ≤ 128 → h ≤ 4
height-few zero t s l = omega arith
height-few (suc zero) t s l = omega arith
height-few (suc (suc zero)) t s l = omega arith
height-few (suc (suc (suc zero))) t s l = omega arith
height-few (suc (suc (suc (suc zero)))) t s l = omega arith
height-few (suc (suc (suc (suc (suc h))))) t s l = let a = root-least (suc (suc (suc (suc h)))) 80 (deep-least h) t s in absurd (omega arith)

valid-height : (t : Rooted) → Valid t → t.height ≤ 4
valid-height t v = let l = between-length v.between v.propers in height-few t.height t.tree v.shape (omega arith)

-- A buffer that holds a lawful tree

nothing-held : (b : List ℕ) → root_in b ≡ 64 → ((m : ℕ) → m < 64 → zeros_in b m 0 24 ≡ true) → lawful b ≡ true
nothing-held b e free =
    sym (lawful-rest b start (walk_is b 0 (root_in b) (Some start) (height-empty b e) refl (unfold visit in refl)))
    ∙ at-all_from 64 0 (free_fits b start.seen) (λ m lo hi. free-zero b start.seen m (start-zero m) true (free m (omega arith)))

no_node : (t : Tree 0) (m : ℕ) → occ m (nodes 0 t) ≡ 0
unfolding nodes occ
no_node t m = refl

module _ (b : List ℕ) where
  holding-is : (h : ℕ) (t : Tree h) → Holding b (record { height = h; tree = t }) → Valid (record { height = h; tree = t }) → lawful b ≡ true
  holding-is zero t q v = nothing-held b (unfold root_of in q.root) (λ m l. q.free m l (no_node t m))
  holding-is (suc h) t q v =
      is_lawful_lem b h (root_in b) 1024 refl (valid-height (record { height = suc h; tree = t }) v) q.stands (rw q.tree v.once) (rw q.tree v.between) (rw q.tree v.propers) (rw q.tree q.free)

  height-is : (h : ℕ) (t : Tree h) → Holding b (record { height = h; tree = t }) → Valid (record { height = h; tree = t }) → height_of b ≡ h
  height-is zero t q v = sym (height-empty b (unfold root_of in q.root))
  height-is (suc h) t q v = stands-high b h (root_in b) refl (valid-height (record { height = suc h; tree = t }) v) q.stands

  module _ (t : Rooted) (holding : Holding b t) (valid : Valid t) where
    holding-lawful : lawful b ≡ true
    holding-lawful = holding-is t.height t.tree holding valid

    holding-tree : tree_of b ≡ t
    unfolding tree_of
    holding-tree = ap (λ (h : ℕ). record { height = h; tree = tree_at b h (root_in b) }) (height-is t.height t.tree holding valid) ∙ ap (λ (x : Tree t.height). record { height = t.height; tree = x }) holding.tree

pub valid-words : (t : Rooted) → Valid t → (lawful (tree_words t) ≡ true) × (tree_of (tree_words t) ≡ t)
valid-words t v = (holding-lawful (tree_words t) t (words-holding t v) v, holding-tree (tree_words t) t (words-holding t v) v)

-- The statements

pub lawful-exactly : LawfulExactly
unfolding LawfulExactly
lawful-exactly b size = (
  λ is. record { tree = tree_of b; words = holding-words b (tree_of b) (lawful-holding b size is); law = valid-lawful (tree_of b) (lawful-valid b is) },
  λ l. ap lawful l.words ∙ (valid-words l.tree (lawful-valid-tree l.tree l.law)).0,
)

pub tree-read-back : TreeReadBack
unfolding TreeReadBack
tree-read-back t l = (valid-words t (lawful-valid-tree t l)).1

pub never-above-four : NeverAboveFour
unfolding NeverAboveFour
never-above-four t l = let b = valid-height t (lawful-valid-tree t l) in (b, λ p. let a = path-levels p t.height t.tree in omega arith)
