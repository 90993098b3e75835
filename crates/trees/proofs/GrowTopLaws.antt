-- An insertion into the whole tree of a lawful buffer: it can go there, and the buffer then holds the tree with the range.
use mathlib.Core.Path.{◌≡◌, refl, sym, ap, ◌∙◌, fun_ext}
use mathlib.Core.Bool.{Bool, true, false, cond}
use mathlib.Core.List.{List}
use Prim.Native.Nat.{ℕ, zero, suc, ◌+◌, ◌≤◌, ◌<◌}
use native.Mathlib.Omega.{arith}
use native.Mathlib.Decide.{dec_lt}
use lib.Dec.{eqb}
use lib.ListN.{length, get_or, length-drop}
use borrow.Author.Tests.{eq-eqb, ne_eqb, eqb-false}
use Rattle.words.proofs.Cases.{by-test, by-dec}
use Rattle.std.specs.Prelude.{Option, Some, None}
use Rattle.std.proofs.lemmas.Option.{none-some}
use Rattle.trees.specs.declared.Range.{Range}
use Rattle.trees.specs.declared.Up.{Up}
use Rattle.trees.specs.Ranges.{proper, insert_list, overlaps}
use Rattle.trees.specs.Nodes.{root_in, count_in, SameNode}
use Rattle.trees.specs.Trees.{Tree, contents, nodes, branches, tree_at, root_of, height_of, tree_of, contents_of, occ, OthersStay}
use Rattle.trees.specs.Insertion.{Grown, whole, parts, insert_at, topped, unused_numbers, taken_number, insert_tree, insertion_way}
use Rattle.trees.specs.Inner.Walk.{zeros_in, lawful}
use Rattle.trees.specs.Inner.Places.{sum}
use Rattle.trees.specs.Inner.Standing.{Stands, free_list, free_number, free_count, grown_nodes, Ready, Parted, Result, Grew, NewRoot}
use Rattle.trees.specs.Inner.Holding.{Holding}
use Rattle.trees.proofs.PlaceLaws.{occ-append}
use Rattle.trees.proofs.PassingLaws.{passing-ext}
use Rattle.trees.proofs.StandingLaws.{TreeNode, node-path, node-is-tree, node-is-stands, occ-node, used, Kept, kept, count_same, zeros-same}
use Rattle.trees.proofs.WidenLaws.{same-trans}
use Rattle.trees.proofs.SizeLaws.{between-length, free-enough, insert-small, insert-parts}
use Rattle.trees.proofs.ExactLaws.{lawful-valid}
use Rattle.trees.proofs.TopLaws.{top-stands, top-once, top-free, zeros-unused}
use Rattle.trees.proofs.GrowLaws.{gains, grown-length, grown-old, next-free, not-here}
use Rattle.trees.proofs.InsertValidLaws.{new-between, new-proper}

-- A lawful buffer

abbrev Top : (b : List ℕ) → Tree (height_of b)
Top b = tree_at b (height_of b) (root_in b)

module _ (b : List ℕ) (is : lawful b ≡ true) where
  -- a node is in the tree if it has a range
  same_test : (m : ℕ) → m < 64 → eqb (occ m (nodes (height_of b) (Top b))) 0 ≡ eqb (count_in b m) 0
  same_test m l =
      by-dec (dec_lt 0 (occ m (nodes (height_of b) (Top b))))
      (λ k. let c = (used b (height_of b) 1 (root_in b) (omega arith) (top-stands b is) m k).0 in ne_eqb (occ m (nodes (height_of b) (Top b))) 0 (λ z. omega arith) ∙ sym (ne_eqb (count_in b m) 0 (λ z. omega arith)))
      (λ k. let z : occ m (nodes (height_of b) (Top b)) ≡ 0 = omega arith in eq-eqb _ 0 z ∙ sym (eq-eqb (count_in b m) 0 (zeros-unused b m (top-free b is m l z))))

  same_numbers : taken_number (tree_of b) ≡ free_number b
  unfolding taken_number free_number unused_numbers free_list tree_of
  same_numbers =
      fun_ext (λ k. ap (λ (l : List ℕ). get_or l k 64) (passing-ext 64 0 (λ m. eqb (occ m (nodes (height_of b) (Top b))) 0) (λ m. eqb (count_in b m) 0) (λ m lo hi. same_test m (omega arith))))

-- below a leaf an insertion makes two parts
whole-high : (f : ℕ → ℕ) (r : Range) (h : ℕ) (t : Tree h) (a : Tree h) → insert_at f r h t ≡ whole a → 1 ≤ h
unfolding insert_at
whole-high f r zero t a e = let z : ◌≡◌ {A = ℕ} 0 1 = cc in absurd (omega arith)
whole-high f r (suc h) t a e = omega arith

root-of : (b : List ℕ) (h n : ℕ) → 1 ≤ h → root_of h (tree_at b h n) ≡ n
unfolding tree_at root_of
root-of b zero n l = absurd (omega arith)
root-of b (suc h) n l = refl

-- a node in use is not the new root
spare : {b b' : List ℕ} {leaf : Bool} {s : Range} {x y : ℕ} → NewRoot b leaf s x y b' → (m : ℕ) → 1 ≤ count_in b m → SameNode b b' m
spare {b = b} w m l = w.others m (λ e. let d = ap (count_in b) e in let z = w.unused in omega arith)

module _ (b : List ℕ) (r : Range) (is : lawful b ≡ true) (ok : proper r ≡ true) (apart : overlaps r (contents_of b) ≡ false) where
  few : length (insert_list r (contents (height_of b) (Top b))) ≤ 128
  unfolding tree_of contents_of
  few = let l = between-length (new-between r (tree_of b) (lawful-valid b is) ok apart) (new-proper r (tree_of b) (lawful-valid b is) ok apart) in omega arith

  enough-free : 64 ≤ free_count b + length (nodes (height_of b) (Top b))
  unfolding free_list
  enough-free = free-enough (λ m. eqb (count_in b m) 0) (nodes (height_of b) (Top b)) (λ m l e. some m (eqb-false _ _ (same_test b is m l ∙ e)))
    where
      some : (m : ℕ) → (occ m (nodes (height_of b) (Top b)) ≡ 0 → ⊥) → 1 ≤ occ m (nodes (height_of b) (Top b))
      some m n = omega arith

  top_ready : Ready b (height_of b) (root_in b) r
  unfolding tree_of
  top_ready = record {
    least = 1;
    some = omega arith;
    stands = top-stands b is;
    once = top-once b is;
    room = let s = insert-small (free_number b) r (height_of b) (Top b) 1024 (lawful-valid b is).shape (lawful-valid b is).between few in let e = enough-free in omega arith;
  }

  abbrev Made : Grown (Tree (height_of b))
  Made = insert_at (free_number b) r (height_of b) (Top b)

  tree-made : insert_tree r (tree_of b) ≡ topped (free_number b) (height_of b) Made
  unfolding insert_tree tree_of
  tree-made = ap (λ (f : ℕ → ℕ). topped f (height_of b) (insert_at f r (height_of b) (Top b))) (same_numbers b is)

  module _ (o : Option Up) (b₁ : List ℕ) (grew : Grew b (height_of b) (root_in b) r o b₁) where
    still-free : (m : ℕ) → m < 64 → occ m (grown_nodes (height_of b) Made) ≡ 0 → zeros_in b₁ m 0 24 ≡ true
    still-free m l z = let o = grown-old b (height_of b) (root_in b) r top_ready m in zeros-same b b₁ m (grew.others m z) 0 24 (omega arith) (top-free b is m l (omega arith))

    -- the root stayed whole
    module _ (a : Tree (height_of b)) (made : Made ≡ whole a) (q : Result b (height_of b) (root_in b) o b₁ (whole a)) where
      root-same : root_in b₁ ≡ root_in b
      unfolding root_in
      root-same = grew.root

      whole-holding : length b₁ ≡ 1537 → Holding b₁ (record { height = height_of b; tree = a })
      unfolding grown_nodes
      whole-holding size = record {
        size = size;
        root = root-same ∙ sym (root-of b₁ (height_of b) (root_in b) (whole-high (free_number b) r (height_of b) (Top b) a made)) ∙ ap (root_of (height_of b)) q.tree;
        tree = ap (tree_at b₁ (height_of b)) root-same ∙ q.tree;
        stands = rw root-same (q.stands 1 (top-stands b is));
        free = λ m l z. still-free m l (rw made z);
      }

      whole-left : length b₁ ≡ 1537 → Holding b₁ (insert_tree r (tree_of b))
      unfolding topped
      whole-left size = rw (tree-made, made) (whole-holding size)

    -- the root was parted
    module _ (a : Tree (height_of b)) (s : Range) (c : Tree (height_of b)) (made : Made ≡ parts a s c) (u : Up) (q : Parted b (height_of b) (root_in b) u b₁ a s c) where
      parts_free : 1 ≤ free_count b₁
      unfolding tree_of
      parts_free =
          let x = insert-parts (free_number b) r (height_of b) (Top b) 1024 (lawful-valid b is).shape (lawful-valid b is).between few a s c made in
          let g = (gains b (height_of b) (root_in b) r top_ready).full a s c made in let l = grown-length b (height_of b) (root_in b) r top_ready in
          let e = enough-free in let d = ap length q.free ∙ length-drop (height_of b) (free_list b) in
          omega arith

      module _ (b₂ : List ℕ) (w : NewRoot b₁ (eqb (height_of b) 0) u.range (root_in b) u.node b₂) where
        below : (y : ℕ) → Stands b₁ (height_of b) 2 y → Kept b₁ b₂ (height_of b) 2 y
        below y st = kept b₁ b₂ (height_of b) 2 y st (λ m o. spare w m (used b₁ (height_of b) 2 y (omega arith) st m o).0)

        abbrev Two : ℕ → Tree (height_of b)
        Two j = cond (eqb j 0) a c

        abbrev Numbers : ℕ → ℕ
        Numbers j = cond (eqb j 0) (root_in b) u.node

        two-trees : (j : ℕ) → tree_at b₂ (height_of b) (Numbers j) ≡ Two j
        two-trees j = by-test (eqb j 0) (λ t. rw t ((below (root_in b) q.stands).tree ∙ q.left)) (λ t. rw t ((below u.node q.behind).tree ∙ q.right))

        two-stand : (j : ℕ) → Stands b₂ (height_of b) 2 (Numbers j)
        two-stand j = by-test (eqb j 0) (λ t. rw t (below (root_in b) q.stands).stands) (λ t. rw t (below u.node q.behind).stands)

        root_is : root_in b₂ ≡ w.place
        unfolding root_in
        root_is = w.root

        tree_is : tree_at b₂ (suc (height_of b)) w.place ≡ TreeNode (height_of b) w.place 1 (λ j. s) Two
        tree_is =
            node-is-tree b₂ (height_of b) w.place 1 (λ j. u.range) Numbers w.node
            ∙ node-path (height_of b) w.place 1 1 (λ j. u.range) (λ j. s) (λ j. tree_at b₂ (height_of b) (Numbers j)) Two refl (λ i l. q.range) (λ i l. two-trees i)

        -- what is not in the new tree is not below its root, and is not the root
        outside : (m : ℕ) → occ m (nodes (suc (height_of b)) (TreeNode (height_of b) w.place 1 (λ j. s) Two)) ≡ 0 → (occ m (grown_nodes (height_of b) Made) ≡ 0) × (m ≡ w.place → ⊥)
        unfolding grown_nodes sum
        outside m z =
            let e = occ-node (height_of b) w.place 1 (λ j. s) Two m in let o = occ-append m (nodes (height_of b) a) (nodes (height_of b) c) in
            (rw made (omega arith), not-here w.place m (omega arith))

        parts-holding : length b₂ ≡ 1537 → Holding b₂ (record { height = suc (height_of b); tree = TreeNode (height_of b) w.place 1 (λ j. s) Two })
        unfolding root_of
        parts-holding size = record {
          size = size;
          root = root_is;
          tree = ap (tree_at b₂ (suc (height_of b))) root_is ∙ tree_is;
          stands = rw root_is (node-is-stands b₂ (height_of b) w.place 1 1 (λ j. u.range) Numbers w.node w.number (omega arith) (omega arith) (λ i l. two-stand i));
          free = λ m l z. let x = outside m z in zeros-same b₁ b₂ m (w.others m x.1) 0 24 (omega arith) (still-free m l x.0);
        }

        parts-left : length b₂ ≡ 1537 → Holding b₂ (insert_tree r (tree_of b))
        unfolding topped branches
        parts-left size = rw (tree-made, made, ← next-free b b₁ (height_of b) q.free, ← w.lowest) (parts-holding size)

-- What is left, with the height and the root that the code has read

module _ (b : List ℕ) (r : Range) (is : lawful b ≡ true) (ok : proper r ≡ true) (apart : overlaps r (contents_of b) ≡ false) (h n : ℕ) (high : h ≡ height_of b) (root : n ≡ root_in b) where
  pub ready-here : Ready b h n r
  ready-here = rw (high, root) (top_ready b r is ok apart)

  abbrev Left : List ℕ → Type 0
  Left b₂ = Holding b₂ (insert_tree r (tree_of b)) × OthersStay b (nodes (tree_of b).height (tree_of b).tree) (insertion_way r.base (tree_of b).height (tree_of b).tree) b₂

  module _ (o : Option Up) (b₁ : List ℕ) (grew : Grew b h n r o b₁) where
    grew_here : Grew b (height_of b) (root_in b) r o b₁
    grew_here = rw (high, root) at grew

    pub whole_here : o ≡ None → length b₁ ≡ 1537 → Left b₁
    unfolding tree_of
    whole_here none size = (go (Made b r is ok apart) refl grew_here.result, record { stay = grew_here.stay })
      where
        go : (g : Grown (Tree (height_of b))) → Made b r is ok apart ≡ g → Result b (height_of b) (root_in b) o b₁ g → Holding b₁ (insert_tree r (tree_of b))
        go (whole a) e q = whole-left b r is ok apart o b₁ grew_here a e q size
        go (parts a s c) e q = absurd (rw none at q)

    pub take-here : (u : Up) → o ≡ Some u → 1 ≤ free_count b₁
    take-here u some = go (Made b r is ok apart) refl grew_here.result
      where
        go : (g : Grown (Tree (height_of b))) → Made b r is ok apart ≡ g → Result b (height_of b) (root_in b) o b₁ g → 1 ≤ free_count b₁
        go (whole a) e q = absurd (none-some u (sym q.nothing ∙ some))
        go (parts a s c) e q = parts_free b r is ok apart o b₁ grew_here a s c e u (rw some at q)

    pub root-here : (u : Up) → o ≡ Some u → (b₂ : List ℕ) (x : ℕ) → x ≡ root_in b → NewRoot b₁ (eqb h 0) u.range x u.node b₂ → length b₂ ≡ 1537 → Left b₂
    unfolding tree_of
    root-here u some b₂ x d w size = (
      go (Made b r is ok apart) refl grew_here.result,
      record {
        stay = λ m o z.
            let st = grew_here.stay m o z in let c = count_same b b₁ m st in let k = (used b (height_of b) 1 (root_in b) (omega arith) (top-stands b is) m o).0 in
            same-trans st (spare w m (omega arith));
      },
    )
      where
        go : (g : Grown (Tree (height_of b))) → Made b r is ok apart ≡ g → Result b (height_of b) (root_in b) o b₁ g → Holding b₂ (insert_tree r (tree_of b))
        go (whole a) e q = absurd (none-some u (sym q.nothing ∙ some))
        go (parts a s c) e q = parts-left b r is ok apart o b₁ grew_here a s c e u (rw some at q) b₂ (rw (high, d) at w) size
