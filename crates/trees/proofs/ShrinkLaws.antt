-- A removal one level higher: from what it left of a child to what it leaves of the node.
use mathlib.Core.Path.{◌≡◌, refl, sym, ap, ap₂, ◌∙◌}
use mathlib.Core.Bool.{Bool, true, false, cond}
use mathlib.Core.List.{List}
use Prim.Native.Nat.{ℕ, zero, suc, ◌+◌, ◌-◌, ◌*◌, ◌≤◌, ◌<◌}
use native.Mathlib.Omega.{arith}
use native.Mathlib.Decide.{dec_lt, ℕ_discrete}
use lib.Dec.{eqb}
use borrow.Author.Tests.{ne_eqb}
use Rattle.words.proofs.Cases.{by-test, by-dec}
use Rattle.trees.specs.declared.Range.{Range}
use Rattle.trees.specs.Nodes.{count_in, range_in, child_in, leaf_word, SameNode}
use Rattle.trees.specs.Trees.{Tree, nodes, tree_at, occ}
use Rattle.trees.specs.Removal.{Taken, take_at, removal_way}
use Rattle.trees.specs.Inner.Walk.{zeros_in, kids}
use Rattle.trees.specs.Inner.Places.{placed, closed, sum}
use Rattle.trees.specs.Inner.Standing.{NodeIs, Stands}
use Rattle.trees.specs.Inner.Shrinking.{slot_under, within, found_at, mend_tree, Uneven, Mended, Trimmed, Ranged, Loose, take_level, Took, Unsettled, Settled}
use Rattle.trees.proofs.SearchLaws.{stands-less}
use Rattle.trees.proofs.PlaceLaws.{placed-here, placed-other, sum-ext, sum_one, sum-two, sum-placed}
use Rattle.trees.proofs.StandingLaws.{TreeNode, node-path, node-is-tree, node-is-stands, tree-node, hit, hit_same, occ-node, occ-at, own-number, child-number, Kept, kept, count_same, leaf-same, range_same, child-same, zeros-same}
use Rattle.trees.proofs.WidenLaws.{same-trans}
use Rattle.trees.proofs.TakeLaws.{under-le, within-mid, within-last, found-mid, found-last, found_in, take-leaf, take-node, Beside, beside}

-- a number that is not in a tree is none of a node at the top

top-not : (a : List ℕ) (h n m : ℕ) → occ m (nodes (suc h) (tree_at a (suc h) n)) ≡ 0 → m ≡ n → ⊥
top-not a h n m z e = let o = own-number a h n in let d = ap (λ (x : ℕ). occ x (nodes (suc h) (tree_at a (suc h) n))) e in omega arith

kid-not : (a : List ℕ) (h n j m : ℕ) → j ≤ count_in a n → occ m (nodes (suc (suc h)) (tree_at a (suc (suc h)) n)) ≡ 0 → m ≡ child_in a n j → ⊥
kid-not a h n j m l z e = let k = child-number a (suc h) n j l m in top-not a h (child_in a n j) m (omega arith) e

-- A leaf

none_below : (a : List ℕ) (m k : ℕ) (f : ℕ → ℕ) → sum k (λ j. occ m (nodes 0 (tree_at a 0 (f j)))) ≡ 0
unfolding sum nodes occ
none_below a m zero f = refl
none_below a m (suc k) f = let e = none_below a m k f in omega arith

leaf-only : (a : List ℕ) (n m : ℕ) → occ m (nodes 1 (tree_at a 1 n)) ≡ hit n m
leaf-only a n m =
    let e = occ-at a 0 n m in
    let z = none_below a m (suc (count_in a n)) (child_in a n) in
    omega arith

module _ (b : List ℕ) (c n : ℕ) (loose : Loose b 1 n) (b' : List ℕ) where
  abbrev Place : ℕ
  Place = within (count_in b n) (slot_under (range_in b n) c (count_in b n) 0)

  module _ (w : Trimmed b true n Place b') where
    some-range : 1 ≤ count_in b n
    some-range = let s = loose.some in let a = loose.stands.enough in omega arith

    leaf-node : NodeIs b' (eqb 0 0) n (count_in b n - 1) (closed (range_in b n) Place) (closed (child_in b n) (Place + 1))
    leaf-node = w.node

    leaf-takes : take_level c 1 (tree_at b 1 n) ≡ record { range = range_in b n Place; left = TreeNode 0 n (count_in b n - 1) (closed (range_in b n) Place) (closed (λ j. tree_at b 0 (child_in b n j)) (suc Place)) }
    unfolding take_level tree_at
    leaf-takes = take-leaf 0 n (count_in b n) (range_in b n) c some-range (λ j. tree_at b 0 (child_in b n j))

    leaf-occ : (m : ℕ) → occ m (nodes 1 (tree_at b' 1 n)) ≡ occ m (nodes 1 (tree_at b 1 n))
    leaf-occ m = leaf-only b' n m ∙ sym (leaf-only b n m)

    leaf-way : (m : ℕ) → occ m (removal_way c 1 (tree_at b 1 n)) ≡ 0 → m ≡ n → ⊥
    unfolding removal_way tree_at occ hit
    leaf-way m z e = let y = hit_same n m e in omega arith

    leaf-took : (s : Range) → s ≡ range_in b n Place → Took b c 1 n s b'
    leaf-took s e = record {
      range = e ∙ sym (ap (λ (t : Taken (Tree 1)). t.range) leaf-takes);
      tree = node-is-tree b' 0 n (count_in b n - 1) (closed (range_in b n) Place) (closed (child_in b n) (Place + 1)) leaf-node
          ∙ node-path 0 n (count_in b n - 1) (count_in b n - 1) (closed (range_in b n) Place) (closed (range_in b n) Place) (λ j. tree_at b' 0 (closed (child_in b n) (Place + 1) j)) (closed (λ j. tree_at b 0 (child_in b n j)) (suc Place)) refl (λ j l. refl) (λ j l. refl)
          ∙ sym (ap (λ (t : Taken (Tree 1)). t.left) leaf-takes);
      stands = λ least st. let a = st.enough in let f = st.few in node-is-stands b' 0 n (count_in b n - 1) least (closed (range_in b n) Place) (closed (child_in b n) (Place + 1)) leaf-node st.number (omega arith) (omega arith) (λ k l. tt);
      fewer = λ m. let o = leaf-occ m in omega arith;
      freed = λ m l z. let o = leaf-occ m in absurd (omega arith);
      stay = λ m l z. w.others m (leaf-way m z);
      others = λ m z. w.others m (top-not b 0 n m z);
      root = w.root;
    }

-- The node with a range replaced, before its children are mended

module _ (b : List ℕ) (h n i : ℕ) (un : Unsettled b h n i) where
  abbrev Kids : ℕ → Tree h
  Kids j = tree_at b h (child_in b n j)

  pair_place : within (count_in b n) i < count_in b n
  pair_place = let s = un.some in by-dec (dec_lt i (count_in b n)) (λ l. let e = within-mid (count_in b n) i l in omega arith) (λ l. let e = within-last (count_in b n) i (omega arith) in omega arith)

  -- the node is not below itself
  not-below : (j : ℕ) → j ≤ count_in b n → (m : ℕ) → 1 ≤ occ m (nodes h (Kids j)) → m ≡ n → ⊥
  not-below j l m o e =
      let a = occ-at b h n m in let k = sum_one (suc (count_in b n)) (λ x. occ m (nodes h (Kids x))) j (omega arith) in let g = hit_same n m e in let q = un.once m in
      omega arith

  kid-stands : (j : ℕ) → j ≤ count_in b n → Stands b h 1 (child_in b n j)
  kid-stands j l = by-dec (ℕ_discrete j i) (λ e. rw e un.child) (λ e. stands-less b h 2 1 (child_in b n j) (omega arith) (un.rest j l e))

  -- nothing is written
  ranged-none : (g : ℕ) → h ≡ suc g → Ranged b false n i (range_in b n i) b
  ranged-none g e = record {
    node = record {
      amount = refl;
      flag = un.flag ∙ ap leaf_word inner;
      ranges = λ j l. by-dec (ℕ_discrete j i) (λ d. rw d (sym (placed-here (range_in b n) i (range_in b n i)))) (λ d. sym (placed-other (range_in b n) i (range_in b n i) j d));
      children = λ j l. refl;
      no-ranges = un.no-ranges;
      no-children = rw inner at un.no-children;
    };
    others = λ m d. record { same = λ k l. refl };
    root = refl;
  }
    where
      inner : eqb h 0 ≡ false
      inner = ne_eqb h 0 (λ z. omega arith)

  module _ (s : Range) (b' : List ℕ) (inner : eqb h 0 ≡ false) (w : Ranged b false n i s b') where
    node-is : NodeIs b' (eqb h 0) n (count_in b n) (placed (range_in b n) i s) (child_in b n)
    node-is = rw inner w.node

    kid-kept : (j least : ℕ) → j ≤ count_in b n → Stands b h least (child_in b n j) → Kept b b' h least (child_in b n j)
    kid-kept j least l st = kept b b' h least (child_in b n j) st (λ m o. w.others m (not-below j l m o))

    child-is : (j : ℕ) → j ≤ count_in b n → child_in b' n j ≡ child_in b n j
    unfolding kids
    child-is j l = w.node.children j (omega arith)

    ranged-tree : tree_at b' (suc h) n ≡ TreeNode h n (count_in b n) (placed (range_in b n) i s) Kids
    ranged-tree =
        node-is-tree b' h n (count_in b n) (placed (range_in b n) i s) (child_in b n) node-is
        ∙ node-path h n (count_in b n) (count_in b n) (placed (range_in b n) i s) (placed (range_in b n) i s) (λ j. tree_at b' h (child_in b n j)) Kids refl (λ j l. refl) (λ j l. (kid-kept j 1 l (kid-stands j l)).tree)

    ranged-occ : (m : ℕ) → occ m (nodes (suc h) (tree_at b' (suc h) n)) ≡ occ m (nodes (suc h) (tree_at b (suc h) n))
    unfolding hit
    ranged-occ m = ap (λ (t : Tree (suc h)). occ m (nodes (suc h) t)) ranged-tree ∙ occ-node h n (count_in b n) (placed (range_in b n) i s) Kids m ∙ sym (occ-at b h n m)

    pair-stands : (j : ℕ) → j ≤ count_in b n → Stands b' h 1 (child_in b' n j)
    pair-stands j l = rw (child-is j l) (kid-kept j 1 l (kid-stands j l)).stands

    ranged-uneven : Uneven b' h n (within (count_in b n) i)
    ranged-uneven =
        let c = w.node.amount in let p = pair_place in
        record {
          place = omega arith;
          rest = λ j l d f. let k : j ≤ count_in b n = omega arith in rw (child-is j k) (kid-kept j 2 k (un.rest j k (λ e. off j e d f))).stands;
          left = pair-stands (within (count_in b n) i) (omega arith);
          right = pair-stands (suc (within (count_in b n) i)) p;
          number = un.number;
          few = rw c un.few;
          flag = node-is.flag;
          no-ranges = rw c node-is.no-ranges;
          no-children = rw c node-is.no-children;
          once = λ m. let e = ranged-occ m in let o = un.once m in omega arith;
        }
      where
        -- child i is one of the two
        off : (j : ℕ) → j ≡ i → (j ≡ within (count_in b n) i → ⊥) → (j ≡ suc (within (count_in b n) i) → ⊥) → ⊥
        off j e d f =
            by-dec (dec_lt i (count_in b n)) (λ l. d (e ∙ within-mid (count_in b n) i l)) (λ l. let p = un.place in let s = un.some in let v = within-last (count_in b n) i (omega arith) in f (omega arith))

-- A node above the leaves

module _ (b : List ℕ) (c g n : ℕ) (loose : Loose b (suc (suc g)) n) where
  abbrev Slot : ℕ
  Slot = slot_under (range_in b n) c (count_in b n) 0

  abbrev Child : ℕ → Tree (suc g)
  Child j = tree_at b (suc g) (child_in b n j)

  some-here : 1 ≤ count_in b n
  some-here = let s = loose.some in let a = loose.stands.enough in omega arith

  slot-here : Slot ≤ count_in b n
  slot-here = let l = under-le (range_in b n) c (count_in b n) 0 in omega arith

  loose-child : Loose b (suc g) (child_in b n Slot)
  loose-child = record {
    least = 2;
    some = omega arith;
    stands = loose.stands.below Slot slot-here;
    once = λ m. let x = child-number b (suc g) n Slot slot-here m in let o = loose.once m in omega arith;
  }

  one_in : (m j : ℕ) → j ≤ count_in b n → hit n m + occ m (nodes (suc g) (Child j)) ≤ 1
  one_in m j l = let a = occ-at b (suc g) n m in let o = loose.once m in let k = sum_one (suc (count_in b n)) (λ x. occ m (nodes (suc g) (Child x))) j (omega arith) in omega arith

  -- a number of one child is in no other
  apart : (m j : ℕ) → j ≤ count_in b n → (j ≡ Slot → ⊥) → 1 ≤ occ m (nodes (suc g) (Child j)) → occ m (nodes (suc g) (Child Slot)) ≡ 0
  apart m j l d o =
      let a = occ-at b (suc g) n m in let q = loose.once m in let s = slot-here in
      let t = sum-two (suc (count_in b n)) (λ x. occ m (nodes (suc g) (Child x))) j Slot d (omega arith) (omega arith) in
      omega arith

  module _ (got : Range) (b₁ : List ℕ) (took : Took b c (suc g) (child_in b n Slot) got b₁) where
    same-n : SameNode b b₁ n
    same-n = took.others n (let o = one_in n Slot slot-here in let z = hit_same n n refl in omega arith)

    count₁ : count_in b₁ n ≡ count_in b n
    count₁ = count_same b b₁ n same-n

    child₁ : (j : ℕ) → j ≤ count_in b n → child_in b₁ n j ≡ child_in b n j
    child₁ j l = let f = loose.stands.few in child-same b b₁ n same-n j (omega arith)

    range₁ : (j : ℕ) → j < count_in b n → range_in b₁ n j ≡ range_in b n j
    range₁ j l = let f = loose.stands.few in range_same b b₁ n same-n j (omega arith)

    other-kid : (j : ℕ) → j ≤ count_in b n → (j ≡ Slot → ⊥) → Kept b b₁ (suc g) 2 (child_in b n j)
    other-kid j l d = kept b b₁ (suc g) 2 (child_in b n j) (loose.stands.below j l) (λ m o. took.others m (apart m j l d o))

    abbrev Left : Tree (suc g)
    Left = tree_at b₁ (suc g) (child_in b n Slot)

    kids₁ : (j : ℕ) → j ≤ count_in b n → tree_at b₁ (suc g) (child_in b₁ n j) ≡ placed Child Slot Left j
    kids₁ j l =
        ap (tree_at b₁ (suc g)) (child₁ j l)
        ∙ by-dec (ℕ_discrete j Slot) (λ d. rw d (sym (placed-here Child Slot Left))) (λ d. (other-kid j l d).tree ∙ sym (placed-other Child Slot Left j d))

    tree₁ : tree_at b₁ (suc (suc g)) n ≡ TreeNode (suc g) n (count_in b n) (range_in b n) (placed Child Slot Left)
    tree₁ =
        tree-node b₁ (suc g) n
        ∙ sym (node-path (suc g) n (count_in b n) (count_in b₁ n) (range_in b n) (range_in b₁ n) (placed Child Slot Left) (λ j. tree_at b₁ (suc g) (child_in b₁ n j)) (sym count₁) (λ j l. sym (range₁ j l)) (λ j l. sym (kids₁ j l)))

    occ₁ : (m : ℕ) → occ m (nodes (suc (suc g)) (tree_at b₁ (suc (suc g)) n)) + occ m (nodes (suc g) (Child Slot)) ≡ occ m (nodes (suc (suc g)) (tree_at b (suc (suc g)) n)) + occ m (nodes (suc g) Left)
    unfolding hit
    occ₁ m =
        let e = ap (λ (t : Tree (suc (suc g))). occ m (nodes (suc (suc g)) t)) tree₁ ∙ occ-node (suc g) n (count_in b n) (range_in b n) (placed Child Slot Left) m in
        let f = occ-at b (suc g) n m in
        let l = slot-here in
        let p = sum-placed (suc (count_in b n)) (λ j. occ m (nodes (suc g) (Child j))) Slot (occ m (nodes (suc g) Left)) (omega arith) in
        let s = sum-ext (suc (count_in b n)) (λ j. occ m (nodes (suc g) (placed Child Slot Left j))) (placed (λ j. occ m (nodes (suc g) (Child j))) Slot (occ m (nodes (suc g) Left))) (λ j l. unfold placed in by-test (eqb j Slot) (λ t. rw t) (λ t. rw t)) in
        omega arith

    fewer₁ : (m : ℕ) → occ m (nodes (suc (suc g)) (tree_at b₁ (suc (suc g)) n)) ≤ occ m (nodes (suc (suc g)) (tree_at b (suc (suc g)) n))
    fewer₁ m = let e = occ₁ m in let f = took.fewer m in omega arith

    unsettled : Unsettled b₁ (suc g) n Slot
    unsettled =
        let k = count₁ in let l = slot-here in let s = some-here in let few = loose.stands.few in
        record {
          place = omega arith;
          some = omega arith;
          child = rw (child₁ Slot l) (took.stands 1 (loose.stands.below Slot l));
          rest = λ j u d. let v : j ≤ count_in b n = omega arith in rw (child₁ j v) (other-kid j v d).stands;
          number = loose.stands.number;
          few = omega arith;
          flag = leaf-same b b₁ n same-n ∙ loose.stands.flag;
          no-ranges = rw k (zeros-same b b₁ n same-n (2 + count_in b n * 4) 18 (omega arith) loose.stands.no-ranges);
          no-children = rw k (zeros-same b b₁ n same-n (18 + kids (eqb (suc g) 0) (count_in b n)) 24 (omega arith) loose.stands.no-children);
          once = λ m. let f = fewer₁ m in let o = loose.once m in omega arith;
        }

    abbrev Out : Taken (Tree (suc g))
    Out = take_at c g (Child Slot)

    abbrev Found : Bool
    Found = found_at (range_in b n) c (count_in b n) Slot

    abbrev At : ℕ
    At = within (count_in b n) Slot

    abbrev Mid : Tree (suc (suc g))
    Mid = TreeNode (suc g) n (count_in b n) (placed (range_in b n) Slot (cond Found Out.range (range_in b n Slot))) (placed Child Slot Out.left)

    takes : take_level c (suc (suc g)) (tree_at b (suc (suc g)) n) ≡ record { range = cond Found (range_in b n Slot) Out.range; left = mend_tree (suc g) At Mid }
    unfolding take_level tree_at
    takes = take-node g n (count_in b n) (range_in b n) c some-here Child

    got-is : got ≡ Out.range
    unfolding take_level
    got-is = took.range

    left_is : Left ≡ Out.left
    unfolding take_level
    left_is = took.tree

    found₁ : found_at (range_in b₁ n) c (count_in b₁ n) Slot ≡ Found
    found₁ =
        ap (λ (x : ℕ). found_at (range_in b₁ n) c x Slot) count₁
        ∙ by-dec (dec_lt Slot (count_in b n)) (λ l. sym (found-mid (count_in b n) Slot (range_in b₁ n) c l (range_in b n Slot) (sym (range₁ Slot l))) ∙ found-mid (count_in b n) Slot (range_in b n) c l (range_in b n Slot) refl)
        (λ l. sym (found-last (count_in b n) Slot (range_in b₁ n) c (omega arith)) ∙ found-last (count_in b n) Slot (range_in b n) c (omega arith))

    range-out : cond (found_at (range_in b₁ n) c (count_in b₁ n) Slot) (range_in b₁ n Slot) got ≡ cond Found (range_in b n Slot) Out.range
    range-out = by-dec (dec_lt Slot (count_in b n)) (λ l. rw (found₁, range₁ Slot l, got-is)) (λ l. rw (found₁, ← found-last (count_in b n) Slot (range_in b n) c (omega arith), got-is))

    range-in : Slot < count_in b n → cond (found_at (range_in b₁ n) c (count_in b₁ n) Slot) got (range_in b₁ n Slot) ≡ cond Found Out.range (range_in b n Slot)
    range-in l = rw (found₁, range₁ Slot l, got-is)

    module _ (s : Range) (b₃ : List ℕ) (w : Settled b₁ (suc g) n Slot c got s b₃) where
      inner : eqb (suc g) 0 ≡ false
      inner = ne_eqb (suc g) 0 (λ e. omega arith)

      abbrev Set : Range
      Set = cond (found_at (range_in b₁ n) c (count_in b₁ n) Slot) got (range_in b₁ n Slot)

      mid-tree : tree_at w.mid (suc (suc g)) n ≡ Mid
      mid-tree =
          ranged-tree b₁ (suc g) n Slot unsettled Set w.mid inner w.ranged
          ∙ sym (node-path (suc g) n (count_in b n) (count_in b₁ n) (placed (range_in b n) Slot (cond Found Out.range (range_in b n Slot))) (placed (range_in b₁ n) Slot Set) (placed Child Slot Out.left) (λ j. tree_at b₁ (suc g) (child_in b₁ n j)) (sym count₁)
          (λ j l. sym (ranges j l)) (λ j l. sym (kids₁ j l ∙ ap (λ (t : Tree (suc g)). placed Child Slot t j) left_is)))
        where
          ranges : (j : ℕ) → j < count_in b n → placed (range_in b₁ n) Slot Set j ≡ placed (range_in b n) Slot (cond Found Out.range (range_in b n Slot)) j
          ranges j l =
              by-dec (ℕ_discrete j Slot)
              (λ d. rw d (placed-here (range_in b₁ n) Slot Set ∙ range-in (omega arith) ∙ sym (placed-here (range_in b n) Slot (cond Found Out.range (range_in b n Slot)))))
              (λ d. placed-other (range_in b₁ n) Slot Set j d ∙ range₁ j l ∙ sym (placed-other (range_in b n) Slot (cond Found Out.range (range_in b n Slot)) j d))

      at-is : within (count_in b₁ n) Slot ≡ At
      at-is = ap (λ (x : ℕ). within x Slot) count₁

      mid-occ : (m : ℕ) → occ m (nodes (suc (suc g)) (tree_at w.mid (suc (suc g)) n)) ≡ occ m (nodes (suc (suc g)) (tree_at b₁ (suc (suc g)) n))
      mid-occ m = ranged-occ b₁ (suc g) n Slot unsettled Set w.mid inner w.ranged m

      mid-count : count_in w.mid n ≡ count_in b n
      mid-count = w.ranged.node.amount ∙ count₁

      mid-child : (j : ℕ) → j ≤ count_in b n → child_in w.mid n j ≡ child_in b n j
      mid-child j l = child-is b₁ (suc g) n Slot unsettled Set w.mid inner w.ranged j (let e = count₁ in omega arith) ∙ child₁ j l

      at_in : At < count_in b n
      at_in = let p = pair_place b₁ (suc g) n Slot unsettled in let e = at-is in let d = count₁ in omega arith

      -- a node that stands beside the two children stays
      steady : (m : ℕ) → (m ≡ n → ⊥) → (m ≡ child_in b n At → ⊥) → (m ≡ child_in b n (suc At) → ⊥) → SameNode b b₁ m → SameNode b b₃ m
      steady m d e f q =
          let p = at_in in
          same-trans (same-trans q (w.ranged.others m d))
          (w.mends.others m d (λ x. e (x ∙ ap (child_in w.mid n) at-is ∙ mid-child At (omega arith))) (λ x. f (x ∙ ap (λ (y : ℕ). child_in w.mid n (suc y)) at-is ∙ mid-child (suc At) p)))

      mid-freed : (m : ℕ) → 1 ≤ occ m (nodes (suc (suc g)) (tree_at b (suc (suc g)) n)) → occ m (nodes (suc (suc g)) (tree_at w.mid (suc (suc g)) n)) ≡ 0 → zeros_in w.mid m 0 24 ≡ true
      mid-freed m l z =
          let x = mid-occ m in let e = occ₁ m in let f = took.fewer m in let o = loose.once m in let k = child-number b (suc g) n Slot slot-here m in
          zeros-same b₁ w.mid m (w.ranged.others m (top-not w.mid (suc g) n m z)) 0 24 (omega arith) (took.freed m (omega arith) (omega arith))

      mid-stays : (m : ℕ) → occ m (nodes (suc (suc g)) (tree_at w.mid (suc (suc g)) n)) ≡ 0 → SameNode w.mid b₃ m
      mid-stays m z =
          let p = at_in in let e = at-is in let d = mid-count in
          w.mends.others m (top-not w.mid (suc g) n m z) (kid-not w.mid g n (within (count_in b₁ n) Slot) m (omega arith) z) (kid-not w.mid g n (suc (within (count_in b₁ n) Slot)) m (omega arith) z)

      node-took : Took b c (suc (suc g)) n s b₃
      node-took = record {
        range = w.range ∙ range-out ∙ sym (ap (λ (t : Taken (Tree (suc (suc g)))). t.range) takes);
        tree = w.mends.tree ∙ ap₂ (λ (x : ℕ) (t : Tree (suc (suc g))). mend_tree (suc g) x t) at-is mid-tree ∙ sym (ap (λ (t : Taken (Tree (suc (suc g)))). t.left) takes);
        stands = λ least st. let e = st.enough in let k = mid-count in w.mends.stands least (omega arith);
        fewer = λ m. let a = w.mends.fewer m in let x = mid-occ m in let f = fewer₁ m in omega arith;
        freed = λ m l z. by-dec (dec_lt 0 (occ m (nodes (suc (suc g)) (tree_at w.mid (suc (suc g)) n)))) (λ k. w.mends.freed m k z)
            (λ k. let y : occ m (nodes (suc (suc g)) (tree_at w.mid (suc (suc g)) n)) ≡ 0 = omega arith in zeros-same w.mid b₃ m (mid-stays m y) 0 24 (omega arith) (mid-freed m l y));
        stay = λ m l z. on-way m z;
        others = λ m z. let p = at_in in
            steady m (top-not b (suc g) n m z) (kid-not b g n At m (omega arith) z) (kid-not b g n (suc At) m p z)
            (took.others m (let k = child-number b (suc g) n Slot slot-here m in omega arith));
        root = w.mends.root ∙ w.ranged.root ∙ took.root;
      }
        where
          on-way : (m : ℕ) → occ m (removal_way c (suc (suc g)) (tree_at b (suc (suc g)) n)) ≡ 0 → SameNode b b₃ m
          on-way m z =
              let q : Beside g n (count_in b n) (range_in b n) c some-here Child m = unfold tree_at in beside g n (count_in b n) (range_in b n) c some-here Child m z in
              steady m q.off-node (unfold tree_at in q.off-left) (unfold tree_at in q.off-right)
              (by-dec (dec_lt 0 (occ m (nodes (suc g) (Child Slot)))) (λ l. took.stay m l q.off-child) (λ l. took.others m (omega arith)))

-- The same by levels, as the code has them

module _ (b : List ℕ) (l n : ℕ) (some : 1 ≤ l) (loose : Loose b l n) where
  level : l ≡ suc (l - 1)
  level = omega arith

  loose' : Loose b (suc (l - 1)) n
  loose' = rw level at loose

  pub node-fits : (n ≤ 63) × ((1 ≤ count_in b n) × (count_in b n ≤ 4))
  node-fits = let a = loose'.some in let e = loose'.stands.enough in (loose'.stands.number, (omega arith, loose'.stands.few))

  module _ (c i : ℕ) (at : i ≡ slot_under (range_in b n) c (count_in b n) 0) where
    pub slot-fits : i ≤ count_in b n
    slot-fits = let e = under-le (range_in b n) c (count_in b n) 0 in omega arith

    pub took-leaf : l ≡ 1 → (s : Range) (b' : List ℕ) → s ≡ range_in b n (within (count_in b n) i) → Trimmed b true n (within (count_in b n) i) b' → Took b c l n s b'
    took-leaf e s b' r w = rw e (leaf-took b c n (rw e at loose) b' (rw at at w) s (rw at at r))

    module _ (two : 2 ≤ l) where
      lower : l - 1 ≡ suc (l - 2)
      lower = omega arith

      upper : l ≡ suc (suc (l - 2))
      upper = omega arith

      loose'' : Loose b (suc (suc (l - 2))) n
      loose'' = rw upper at loose

      pub child-loose : Loose b (l - 1) (child_in b n i)
      child-loose = rw (lower, at) (loose-child b c (l - 2) n loose'')

      module _ (got : Range) (b₁ : List ℕ) (took : Took b c (l - 1) (child_in b n i) got b₁) where
        took' : Took b c (suc (l - 2)) (child_in b n (slot_under (range_in b n) c (count_in b n) 0)) got b₁
        took' = rw (lower, at) at took

        pub child-unsettled : Unsettled b₁ (l - 1) n i
        child-unsettled = rw (lower, at) (unsettled b c (l - 2) n loose'' got b₁ took')

        pub took-settled : (s : Range) (b₃ : List ℕ) → Settled b₁ (l - 1) n i c got s b₃ → Took b c l n s b₃
        took-settled s b₃ w = rw upper (node-took b c (l - 2) n loose'' got b₁ took' s b₃ (rw (lower, at) at w))

module _ (b : List ℕ) (l n i : ℕ) (two : 2 ≤ l) (un : Unsettled b (l - 1) n i) where
  inner-level : eqb (l - 1) 0 ≡ false
  inner-level = ne_eqb (l - 1) 0 (λ e. omega arith)

  pub settle-fits : (n ≤ 63) × ((i ≤ count_in b n) × ((1 ≤ count_in b n) × (count_in b n ≤ 4)))
  settle-fits = (un.number, (un.place, (un.some, un.few)))

  pub none-ranged : Ranged b false n i (range_in b n i) b
  none-ranged = ranged-none b (l - 1) n i un (l - 2) (omega arith)

  module _ (j : ℕ) (pair : j ≡ within (count_in b n) i) (s : Range) (mid : List ℕ) (w : Ranged b false n i s mid) where
    pub settle-mends : ((2 ≤ l) × ((n ≤ 63) × ((j < count_in mid n) × (count_in mid n ≤ 4)))) × Uneven mid (l - 1) n j
    settle-mends =
        let p = pair_place b (l - 1) n i un in let e = w.node.amount in let f = un.few in
        ((two, (un.number, (omega arith, omega arith))), rw pair (ranged-uneven b (l - 1) n i un s mid inner-level w))

  pub settle-reads : (c : ℕ) (v : Bool) → v ≡ found_at (range_in b n) c (count_in b n) i → v ≡ true → (n ≤ 63) × (i ≤ 3)
  settle-reads c v e t = let l = found_in (count_in b n) i (range_in b n) c (sym e ∙ t) in let f = un.few in (un.number, omega arith)

  module _ (j : ℕ) (pair : j ≡ within (count_in b n) i) (got : Range) (c : ℕ) (v : Bool) (tested : v ≡ found_at (range_in b n) c (count_in b n) i) (b' : List ℕ) where
    pub settled-found : v ≡ true → (r : Range) → r ≡ range_in b n i → (mid : List ℕ) → Ranged b false n i got mid → Mended mid (l - 1) n j b' → Settled b (l - 1) n i c got r b'
    settled-found t r e mid w m = let f = sym tested ∙ t in record { range = rw f e; mid = mid; ranged = rw f w; mends = rw pair at m }

    pub settled-not : v ≡ false → Mended b (l - 1) n j b' → Settled b (l - 1) n i c got got b'
    settled-not t m = let f = sym tested ∙ t in record { range = rw f; mid = b; ranged = rw f none-ranged; mends = rw pair at m }
