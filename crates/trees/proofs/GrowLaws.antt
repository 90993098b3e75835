-- An insertion one level higher: from what it left of a child to what it leaves of the node.
use mathlib.Core.Path.{◌≡◌, refl, sym, ap, ◌∙◌}
use mathlib.Core.Bool.{cond}
use mathlib.Core.List.{List}
use Prim.Native.Nat.{ℕ, zero, suc, ◌+◌, ◌-◌, ◌*◌, ◌≤◌, ◌<◌}
use native.Mathlib.Omega.{arith}
use native.Mathlib.Decide.{dec_lt, ℕ_discrete}
use lib.Dec.{ltb, eqb}
use lib.ListN.{length, get_or, drop, length-append, length-drop}
use lib.Seq.{get_or-drop, drop-drop}
use borrow.Author.Tests.{ne_eqb, eqb-true, eqb-false, ltb-true, ltb-false}
use Rattle.words.proofs.Cases.{by-test, by-dec}
use Rattle.std.specs.Prelude.{Option, Some, None, MatchOption}
use Rattle.std.proofs.lemmas.Option.{none-some}
use Rattle.trees.specs.declared.Range.{Range}
use Rattle.trees.specs.declared.Up.{Up}
use Rattle.trees.specs.Nodes.{count_in, range_in, child_in, SameNode}
use Rattle.trees.specs.Trees.{Tree, nodes, tree_at, occ}
use Rattle.trees.specs.Insertion.{Grown, whole, parts, insert_at, insertion_way}
use Rattle.trees.specs.Inner.Walk.{kids}
use Rattle.trees.specs.Inner.Places.{placed, opened, slot_by, sum}
use Rattle.trees.specs.Inner.Standing.{NodeIs, Stands, free_list, free_number, free_count, grown_nodes, Ready, Parted, Result, Grew, Absorbed, Halved, Widened}
use Rattle.trees.proofs.CheckLaws.{leaf-level}
use Rattle.trees.proofs.PlaceLaws.{placed-here, placed-other, opened_map, slot_by-le, sum_one, sum-two, occ-append}
use Rattle.trees.proofs.PassingLaws.{passing-next, passing-among, first-occ}
use Rattle.trees.proofs.SizeLaws.{stands-shape}
use Rattle.trees.proofs.StandingLaws.{TreeNode, node-path, node-is-tree, node-is-stands, hit, hit_same, occ-node, occ-at, used, own-number, child-number, Kept, kept, count_same, leaf-same, range_same, child-same, zeros-same}
use Rattle.trees.proofs.WidenLaws.{same-trans, node-is-ext}
use Rattle.trees.proofs.GainLaws.{insert-whole, insert-absorb, insert-halve, weigh-kid, weigh-halve, Gains, insert-gains, way-row, sum_ones}

pub opened-ext : {A : Type 0} (T U : ℕ → A) (s : ℕ) (a c : A) (top j : ℕ) → ((i : ℕ) → i ≤ top → T i ≡ U i) → a ≡ c → s ≤ suc top → j ≤ suc top → opened T s a j ≡ opened U s c j
unfolding opened
opened-ext T U s a c top j e d l u =
    by-test (ltb j s) (λ t. let x : j < s = ltb-true _ _ t in rw t (e j (omega arith)))
    (λ t. let x : s ≤ j = ltb-false _ _ t in by-test (eqb j s) (λ v. rw (t, v) d) (λ v. let y = eqb-false j s v in rw (t, v) (e (j - 1) (omega arith))))

opened-all : (P : ℕ → Type 0) (T : ℕ → ℕ) (s a top j : ℕ) → ((i : ℕ) → i ≤ top → P (T i)) → P a → s ≤ suc top → j ≤ suc top → P (opened T s a j)
unfolding opened
opened-all P T s a top j e d l u =
    by-test (ltb j s) (λ t. let x : j < s = ltb-true _ _ t in rw t (e j (omega arith)))
    (λ t. let x : s ≤ j = ltb-false _ _ t in by-test (eqb j s) (λ v. rw (t, v) d) (λ v. let y = eqb-false j s v in rw (t, v) (e (j - 1) (omega arith))))

-- There are nodes for what it gains, and all of them are unused

module _ (b : List ℕ) (h n : ℕ) (q : Range) (ready : Ready b h n q) where
  pub gains : Gains (free_number b) h (tree_at b h n) (insert_at (free_number b) q h (tree_at b h n))
  gains = insert-gains (free_number b) q h ready.least (tree_at b h n) (stands-shape b h ready.least n ready.stands)

  pub grown-length : length (grown_nodes h (insert_at (free_number b) q h (tree_at b h n))) ≡ length (nodes h (tree_at b h n)) + gains.levels
  grown-length = let w = gains.weigh length refl length-append in let e = sum_ones gains.levels (free_number b) in omega arith

  enough : gains.levels ≤ free_count b
  enough = let l = grown-length in let r = ready.room in omega arith

  pub grown-old : (m : ℕ) → occ m (nodes h (tree_at b h n)) ≤ occ m (grown_nodes h (insert_at (free_number b) q h (tree_at b h n)))
  unfolding occ
  grown-old m = let w = gains.weigh (occ m) refl (occ-append m) in omega arith

  grown-new : (m : ℕ) → 1 ≤ occ m (grown_nodes h (insert_at (free_number b) q h (tree_at b h n))) → occ m (nodes h (tree_at b h n)) ≡ 0 → count_in b m ≡ 0
  unfolding occ free_number free_list
  grown-new m l z =
      let w = gains.weigh (occ m) refl (occ-append m) in let e = first-occ (free_list b) gains.levels m 64 enough in
      eqb-true _ _ ((passing-among 64 0 m (λ i. eqb (count_in b i) 0)).does (omega arith))

-- the lowest of what is left is the next one
pub next-free : (b b₁ : List ℕ) (h : ℕ) → free_list b₁ ≡ drop h (free_list b) → free_number b₁ 0 ≡ free_number b h
unfolding free_number
next-free b b₁ h e = let z : h + 0 ≡ h = omega arith in ap (λ (l : List ℕ). get_or l 0 64) e ∙ get_or-drop h (free_list b) 0 64 ∙ ap (λ (k : ℕ). get_or (free_list b) k 64) z

-- The node and its child

pub not-here : (n m : ℕ) → cond {A = ℕ} (eqb n m) 1 0 ≡ 0 → m ≡ n → ⊥
unfolding hit
not-here n m z e = let x = hit_same n m e in omega arith

abbrev Kids : List ℕ → (h : ℕ) → ℕ → ℕ → Tree h
Kids b h n j = tree_at b h (child_in b n j)

abbrev Here : List ℕ → (h : ℕ) → ℕ → Tree (suc h)
Here b h n = TreeNode h n (count_in b n) (range_in b n) (Kids b h n)

abbrev Slot : List ℕ → ℕ → Range → ℕ
Slot b n q = slot_by (range_in b n) q.base (count_in b n) 0

module _ (b : List ℕ) (h n : ℕ) (q : Range) (ready : Ready b (suc h) n q) where
  slot-in : Slot b n q ≤ count_in b n
  slot-in = let l = slot_by-le (range_in b n) q.base (count_in b n) 0 in omega arith

  some-ranges : 1 ≤ count_in b n
  some-ranges = let a = ready.some in let c = ready.stands.enough in omega arith

  once-here : (m : ℕ) → hit n m + sum (suc (count_in b n)) (λ j. occ m (nodes h (Kids b h n j))) ≤ 1
  once-here m = let e = occ-at b h n m in let o = ready.once m in omega arith

  kid-room : length (grown_nodes h (insert_at (free_number b) q h (Kids b h n (Slot b n q)))) ≤ length (nodes h (Kids b h n (Slot b n q))) + free_count b
  unfolding tree_at
  kid-room =
      let few = ready.stands.few in let r = ready.room in
      let x = weigh-kid length refl length-append (free_number b) q h n (count_in b n) (range_in b n) (Kids b h n) (insert_at (free_number b) q h (Kids b h n (Slot b n q))) few refl in
      omega arith

  ready-child : Ready b h (child_in b n (Slot b n q)) q
  ready-child = record {
    least = 2;
    some = omega arith;
    stands = ready.stands.below (Slot b n q) slot-in;
    once = λ m. let x = child-number b h n (Slot b n q) slot-in m in let o = ready.once m in omega arith;
    room = kid-room;
  }

  -- What the insertion left of the child: the numbers in the node, and its other children
  module _ (o : Option Up) (b₁ : List ℕ) (grew : Grew b h (child_in b n (Slot b n q)) q o b₁) where
    abbrev After : Grown (Tree h)
    After = insert_at (free_number b) q h (Kids b h n (Slot b n q))

    abbrev Made : Grown (Tree (suc h))
    Made = insert_at (free_number b) q (suc h) (Here b h n)

    kid-sum : (m : ℕ) → occ m (nodes h (Kids b h n (Slot b n q))) ≤ sum (suc (count_in b n)) (λ j. occ m (nodes h (Kids b h n j)))
    kid-sum m = sum_one (suc (count_in b n)) (λ j. occ m (nodes h (Kids b h n j))) (Slot b n q) (let l = slot-in in omega arith)

    -- a node that is in use and not in the child is not in what the insertion left of it
    not_taken : (m : ℕ) → 1 ≤ count_in b m → occ m (nodes h (Kids b h n (Slot b n q))) ≡ 0 → occ m (grown_nodes h After) ≡ 0
    not_taken m some o = by-dec (dec_lt 0 (occ m (grown_nodes h After))) (λ l. let z = grown-new b h (child_in b n (Slot b n q)) q ready-child m l o in absurd (omega arith)) (λ l. omega arith)

    not-in-kid : occ n (nodes h (Kids b h n (Slot b n q))) ≡ 0
    not-in-kid = let a = once-here n in let l = kid-sum n in let e = hit_same n n refl in omega arith

    same_here : SameNode b b₁ n
    same_here = grew.others n (not_taken n some-ranges not-in-kid)

    apart : (j : ℕ) → j ≤ count_in b n → (j ≡ Slot b n q → ⊥) → (m : ℕ) → 1 ≤ occ m (nodes h (Kids b h n j)) → occ m (nodes h (Kids b h n (Slot b n q))) ≡ 0
    apart j l d m o =
        let a = once-here m in let s = slot-in in
        let t = sum-two (suc (count_in b n)) (λ i. occ m (nodes h (Kids b h n i))) j (Slot b n q) d (omega arith) (omega arith) in
        omega arith

    other-kid : (j : ℕ) → j ≤ count_in b n → (j ≡ Slot b n q → ⊥) → Kept b b₁ h 2 (child_in b n j)
    other-kid j l d =
        kept b b₁ h 2 (child_in b n j) (ready.stands.below j l)
        (λ m o. grew.others m (not_taken m (used b h 2 (child_in b n j) (omega arith) (ready.stands.below j l) m o).0 (apart j l d m o)))

    -- with the child's place taken by a, each child is what it was
    kid-trees : (a : Tree h) → tree_at b₁ h (child_in b n (Slot b n q)) ≡ a → (j : ℕ) → j ≤ count_in b n → tree_at b₁ h (child_in b n j) ≡ placed (Kids b h n) (Slot b n q) a j
    kid-trees a e j l =
        by-dec (ℕ_discrete j (Slot b n q))
        (λ d. rw d (e ∙ sym (placed-here (Kids b h n) (Slot b n q) a)))
        (λ d. (other-kid j l d).tree ∙ sym (placed-other (Kids b h n) (Slot b n q) a j d))

    kid-stands : Stands b₁ h 2 (child_in b n (Slot b n q)) → (j : ℕ) → j ≤ count_in b n → Stands b₁ h 2 (child_in b n j)
    kid-stands s j l = by-dec (ℕ_discrete j (Slot b n q)) (λ d. rw d s) (λ d. (other-kid j l d).stands)

    -- what is outside the node now is outside the child, and is not the node
    outside : (m : ℕ) → occ m (grown_nodes (suc h) Made) ≡ 0 → (occ m (grown_nodes h After) ≡ 0) × (m ≡ n → ⊥)
    unfolding tree_at occ
    outside m z =
        let few = ready.stands.few in
        let x = weigh-kid (occ m) refl (occ-append m) (free_number b) q h n (count_in b n) (range_in b n) (Kids b h n) After few refl in
        let y = child-number b h n (Slot b n q) slot-in m in
        let o = grown-old b (suc h) n q ready m in
        (omega arith, λ e. let s = own-number b h n in let d = ap (λ (i : ℕ). occ i (nodes (suc h) (Here b h n))) e in omega arith)

    -- a node that is not on the way is not this one, and stays as it is
    aside : (m : ℕ) → 1 ≤ occ m (nodes (suc h) (Here b h n)) → occ m (insertion_way q.base (suc h) (Here b h n)) ≡ 0 → (m ≡ n → ⊥) × SameNode b b₁ m
    unfolding tree_at insertion_way occ
    aside m o z =
        let w = ap (occ m) (way-row (insertion_way q.base h) q.base (range_in b n) (Kids b h n) (count_in b n) 0) in (
          not-here n m (omega arith),
          by-dec (dec_lt 0 (occ m (nodes h (Kids b h n (Slot b n q)))))
              (λ l. grew.stay m l (omega arith))
              (λ l. grew.others m (not_taken m (used b (suc h) ready.least n ready.some ready.stands m o).0 (omega arith))),
        )

    -- The child stayed whole: the node is not written

    module _ (a : Tree h) (is : After ≡ whole a) (nothing : o ≡ None) (left : tree_at b₁ h (child_in b n (Slot b n q)) ≡ a)
        (stays : (least : ℕ) → Stands b h least (child_in b n (Slot b n q)) → Stands b₁ h least (child_in b n (Slot b n q))) where
      whole-tree : tree_at b₁ (suc h) n ≡ TreeNode h n (count_in b n) (range_in b n) (placed (Kids b h n) (Slot b n q) a)
      unfolding tree_at
      whole-tree =
          let few = ready.stands.few in
          sym (node-path h n (count_in b n) (count_in b₁ n) (range_in b n) (range_in b₁ n) (placed (Kids b h n) (Slot b n q) a) (Kids b₁ h n) (sym (count_same b b₁ n same_here)) (λ i l. sym (range_same b b₁ n same_here i (omega arith)))
          (λ i l. sym (ap (tree_at b₁ h) (child-same b b₁ n same_here i (omega arith)) ∙ kid-trees a left i l)))

      whole-stands : (least : ℕ) → Stands b (suc h) least n → Stands b₁ (suc h) least n
      whole-stands least s =
          let same = count_same b b₁ n same_here in let few = s.few in
          record {
            number = s.number;
            enough = rw same s.enough;
            few = rw same s.few;
            flag = leaf-same b b₁ n same_here ∙ s.flag;
            no-ranges = rw same (zeros-same b b₁ n same_here (2 + count_in b n * 4) 18 (omega arith) s.no-ranges);
            no-children = rw same (zeros-same b b₁ n same_here (18 + kids (eqb h 0) (count_in b n)) 24 (omega arith) s.no-children);
            below = λ i l. let k : i ≤ count_in b n = omega arith in rw (child-same b b₁ n same_here i (omega arith)) (kid-stands (stays 2 (s.below (Slot b n q) slot-in)) i k);
          }

      grows-whole : Grew b (suc h) n q o b₁
      unfolding tree_at
      grows-whole = record {
        result = let few = ready.stands.few in rw (insert-whole (free_number b) q h n (count_in b n) (range_in b n) (Kids b h n) a few is) (record { nothing = nothing; tree = whole-tree; stands = whole-stands });
        stay = λ m o z. (aside m o z).1;
        others = λ m z. grew.others m (outside m z).0;
        root = grew.root;
      }

    grew-whole : o ≡ None → Grew b (suc h) n q o b₁
    grew-whole none = go After refl grew.result
      where
        go : (g : Grown (Tree h)) → After ≡ g → Result b h (child_in b n (Slot b n q)) o b₁ g → Grew b (suc h) n q o b₁
        go (whole a) e r = grows-whole a e none r.tree r.stands
        go (parts a s c) e r = absurd (rw none at r)

    -- The child was parted, and the node is written

    module _ (a : Tree h) (s : Range) (c : Tree h) (is : After ≡ parts a s c) (u : Up) (r : Parted b h (child_in b n (Slot b n q)) u b₁ a s c) where
      abbrev Trees : ℕ → Tree h
      Trees = opened (placed (Kids b h n) (Slot b n q) a) (suc (Slot b n q)) c

      abbrev Ranges : ℕ → Range
      Ranges = opened (range_in b n) (Slot b n q) s

      in_after : (m : ℕ) → occ m (nodes h a) + occ m (nodes h c) ≡ occ m (grown_nodes h After)
      unfolding grown_nodes
      in_after m = let e = occ-append m (nodes h a) (nodes h c) in rw is (omega arith)

      -- the node is not below itself
      not-below : (j : ℕ) → j ≤ count_in b n → occ n (nodes h (tree_at b₁ h (child_in b n j))) ≡ 0
      not-below j l =
          by-dec (ℕ_discrete j (Slot b n q))
          (λ d. rw (d, r.left) (let e = in_after n in let z = not_taken n some-ranges not-in-kid in omega arith))
          (λ d. rw (other-kid j l d).tree (let e = once-here n in let o = hit_same n n refl in let t = sum_one (suc (count_in b n)) (λ i. occ n (nodes h (Kids b h n i))) j (omega arith) in omega arith))

      not_behind : occ n (nodes h (tree_at b₁ h u.node)) ≡ 0
      not_behind = rw r.right (let e = in_after n in let z = not_taken n some-ranges not-in-kid in omega arith)

      module _ (b₂ : List ℕ) (spare : (m : ℕ) → (m ≡ n → ⊥) → 1 ≤ count_in b₁ m → SameNode b₁ b₂ m) where
        untouched : (y : ℕ) → Stands b₁ h 2 y → occ n (nodes h (tree_at b₁ h y)) ≡ 0 → Kept b₁ b₂ h 2 y
        untouched y st z = kept b₁ b₂ h 2 y st (λ m o. spare m (λ e. let d = ap (λ (x : ℕ). occ x (nodes h (tree_at b₁ h y))) e in omega arith) (used b₁ h 2 y (omega arith) st m o).0)

        kept-kid : (j : ℕ) → j ≤ count_in b n → Kept b₁ b₂ h 2 (child_in b n j)
        kept-kid j l = untouched (child_in b n j) (kid-stands r.stands j l) (not-below j l)

        kept_new : Kept b₁ b₂ h 2 u.node
        kept_new = untouched u.node r.behind not_behind

        -- the children of the written row
        abbrev Below : ℕ → ℕ
        Below = opened (child_in b₁ n) (Slot b n q + 1) u.node

        trees-are : (j : ℕ) → j ≤ suc (count_in b n) → tree_at b₂ h (Below j) ≡ Trees j
        trees-are j l =
            let few = ready.stands.few in let e : Slot b n q + 1 ≡ suc (Slot b n q) = omega arith in let i = slot-in in
            opened_map (tree_at b₂ h) (child_in b₁ n) (Slot b n q + 1) u.node j
            ∙ opened-ext (λ x. tree_at b₂ h (child_in b₁ n x)) (placed (Kids b h n) (Slot b n q) a) (Slot b n q + 1) (tree_at b₂ h u.node) c (count_in b n) j
            (λ x y. ap (tree_at b₂ h) (child-same b b₁ n same_here x (omega arith)) ∙ (kept-kid x y).tree ∙ kid-trees a r.left x y)
            (kept_new.tree ∙ r.right) (omega arith) l
            ∙ ap (λ (x : ℕ). opened (placed (Kids b h n) (Slot b n q) a) x c j) e

        stands-are : (j : ℕ) → j ≤ suc (count_in b n) → Stands b₂ h 2 (Below j)
        stands-are j l =
            let few = ready.stands.few in let i = slot-in in
            opened-all (Stands b₂ h 2) (child_in b₁ n) (Slot b n q + 1) u.node (count_in b n) j
            (λ x y. rw (child-same b b₁ n same_here x (omega arith)) (kept-kid x y).stands) kept_new.stands (omega arith) l

        ranges-are : (j : ℕ) → j ≤ 4 → opened (range_in b₁ n) (Slot b n q) u.range j ≡ Ranges j
        ranges-are j l =
            let few = ready.stands.few in let i = slot-in in
            opened-ext (range_in b₁ n) (range_in b n) (Slot b n q) u.range s 3 j (λ x y. range_same b b₁ n same_here x y) r.range (omega arith) l

      count-here : count_in b₁ n ≡ count_in b n
      count-here = count_same b b₁ n same_here

      -- it has room
      module _ (v : Option Up) (b₂ : List ℕ) (few : count_in b n ≤ 3) (w : Absorbed b₁ (eqb h 0) n (Slot b n q) u.range u.node v b₂) where
        spare-a : (m : ℕ) → (m ≡ n → ⊥) → 1 ≤ count_in b₁ m → SameNode b₁ b₂ m
        spare-a m d o = w.others m d

        node-a : NodeIs b₂ (eqb h 0) n (suc (count_in b n)) Ranges (Below b₂ spare-a)
        node-a =
            let e : count_in b₁ n + 1 ≡ suc (count_in b n) = let x = count-here in omega arith in
            node-is-ext b₂ (eqb h 0) n (suc (count_in b n)) (opened (range_in b₁ n) (Slot b n q) u.range) Ranges (Below b₂ spare-a) (Below b₂ spare-a) (λ i l. ranges-are b₂ spare-a i (omega arith)) (λ i l. refl) (rw e at w.node)

        grows-absorbed : Grew b (suc h) n q v b₂
        unfolding tree_at
        grows-absorbed = record {
          result = rw (insert-absorb (free_number b) q h n (count_in b n) (range_in b n) (Kids b h n) a s c few is) (record {
            nothing = w.nothing;
            tree = node-is-tree b₂ h n (suc (count_in b n)) Ranges (Below b₂ spare-a) node-a
                ∙ node-path h n (suc (count_in b n)) (suc (count_in b n)) Ranges Ranges (λ j. tree_at b₂ h (Below b₂ spare-a j)) Trees refl (λ i l. refl) (λ i l. trees-are b₂ spare-a i l);
            stands = λ least st. let en = st.enough in node-is-stands b₂ h n (suc (count_in b n)) least Ranges (Below b₂ spare-a) node-a st.number (omega arith) (omega arith) (λ i l. stands-are b₂ spare-a i l);
          });
          stay = λ m o z. let x = aside m o z in same-trans x.1 (w.others m x.0);
          others = λ m z. let x = outside m z in same-trans (grew.others m x.0) (w.others m x.1);
          root = w.root ∙ grew.root;
        }

      -- it had four ranges
      module _ (v : Up) (b₂ : List ℕ) (four : count_in b n ≡ 4) (w : Halved b₁ (eqb h 0) n (Slot b n q) u.range u.node v b₂) where
        spare-h : (m : ℕ) → (m ≡ n → ⊥) → 1 ≤ count_in b₁ m → SameNode b₁ b₂ m
        spare-h m d o = w.others m d (λ e. let x = ap (count_in b₁) e in let y = w.taken in omega arith)

        left_is : NodeIs b₂ (eqb h 0) n 2 Ranges (Below b₂ spare-h)
        left_is = node-is-ext b₂ (eqb h 0) n 2 (opened (range_in b₁ n) (Slot b n q) u.range) Ranges (Below b₂ spare-h) (Below b₂ spare-h) (λ i l. ranges-are b₂ spare-h i (omega arith)) (λ i l. refl) w.left

        right_is : NodeIs b₂ (eqb h 0) v.node 2 (λ j. Ranges (3 + j)) (λ j. Below b₂ spare-h (3 + j))
        right_is = node-is-ext b₂ (eqb h 0) v.node 2 (λ j. opened (range_in b₁ n) (Slot b n q) u.range (3 + j)) (λ j. Ranges (3 + j)) (λ j. Below b₂ spare-h (3 + j)) (λ j. Below b₂ spare-h (3 + j)) (λ i l. ranges-are b₂ spare-h (3 + i) (omega arith)) (λ i l. refl) w.right

        -- it is the next one after those that the child took
        taken_is : v.node ≡ free_number b h
        taken_is = w.lowest ∙ next-free b b₁ h r.free

        free-left : free_list b₂ ≡ drop (suc h) (free_list b)
        unfolding free_number free_list
        free-left =
            let e : h + 1 ≡ suc h = omega arith in
            passing-next 64 0 (λ m. eqb (count_in b₁ m) 0) (λ m. eqb (count_in b₂ m) 0) 64
            (rw (← w.lowest) (ne_eqb (count_in b₂ v.node) 0 (λ z. let x = right_is.amount in omega arith)))
            (λ i lo hi d. by-dec (ℕ_discrete i n)
            (λ x. rw x (ne_eqb (count_in b₂ n) 0 (λ z. let y = left_is.amount in omega arith) ∙ sym (ne_eqb (count_in b₁ n) 0 (λ z. let y = count-here in omega arith))))
            (λ x. ap (λ (y : ℕ). eqb y 0) (count_same b₁ b₂ i (w.others i x (λ z. d (z ∙ w.lowest))))))
            ∙ ap (drop 1) r.free ∙ drop-drop 1 h (free_list b) ∙ ap (λ (k : ℕ). drop k (free_list b)) e

        abbrev Left : Tree (suc h)
        Left = TreeNode h n 2 Ranges Trees

        abbrev Right : Tree (suc h)
        Right = TreeNode h v.node 2 (λ j. Ranges (3 + j)) (λ j. Trees (3 + j))

        grown-is : Made ≡ parts Left (Ranges 2) Right
        grown-is = rw taken_is (insert-halve (free_number b) q h n (count_in b n) (range_in b n) (Kids b h n) a s c four is)

        not_there : (m : ℕ) → occ m (grown_nodes (suc h) Made) ≡ 0 → m ≡ v.node → ⊥
        unfolding occ
        not_there m z =
            let x = weigh-halve (occ m) refl (occ-append m) (free_number b) q h n (count_in b n) (range_in b n) (Kids b h n) a s c four is in
            let y = kid-sum m in let o = occ-node h n (count_in b n) (range_in b n) (Kids b h n) m in
            rw taken_is (not-here (free_number b h) m (omega arith))

        grows-halved : Grew b (suc h) n q (Some v) b₂
        unfolding tree_at
        grows-halved =
            let num = ready.stands.number in
            record {
              result = rw grown-is (record {
                range = w.range ∙ ranges-are b₂ spare-h 2 (omega arith);
                left = node-is-tree b₂ h n 2 Ranges (Below b₂ spare-h) left_is
                    ∙ node-path h n 2 2 Ranges Ranges (λ j. tree_at b₂ h (Below b₂ spare-h j)) Trees refl (λ i l. refl) (λ i l. trees-are b₂ spare-h i (omega arith));
                right = node-is-tree b₂ h v.node 2 (λ j. Ranges (3 + j)) (λ j. Below b₂ spare-h (3 + j)) right_is
                    ∙ node-path h v.node 2 2 (λ j. Ranges (3 + j)) (λ j. Ranges (3 + j)) (λ j. tree_at b₂ h (Below b₂ spare-h (3 + j))) (λ j. Trees (3 + j)) refl (λ i l. refl) (λ i l. trees-are b₂ spare-h (3 + i) (omega arith));
                stands = node-is-stands b₂ h n 2 2 Ranges (Below b₂ spare-h) left_is num (omega arith) (omega arith) (λ i l. stands-are b₂ spare-h i (omega arith));
                behind = node-is-stands b₂ h v.node 2 2 (λ j. Ranges (3 + j)) (λ j. Below b₂ spare-h (3 + j)) right_is w.number (omega arith) (omega arith) (λ i l. stands-are b₂ spare-h (3 + i) (omega arith));
                free = free-left;
              });
              stay = λ m o z. let x = aside m o z in same-trans x.1 (spare-h m x.0 (let y = count_same b b₁ m x.1 in let k = (used b (suc h) ready.least n ready.some ready.stands m o).0 in omega arith));
              others = λ m z. let x = outside m z in same-trans (grew.others m x.0) (w.others m x.1 (not_there m z));
              root = w.root ∙ grew.root;
            }

    grew-widened : (u : Up) → o ≡ Some u → (v : Option Up) (b₂ : List ℕ) → Widened b₁ (eqb h 0) n (Slot b n q) u.range u.node v b₂ → Grew b (suc h) n q v b₂
    grew-widened u some v b₂ w = go After refl grew.result
      where
        over : (a : Tree h) (s : Range) (c : Tree h) → After ≡ parts a s c → Parted b h (child_in b n (Slot b n q)) u b₁ a s c → (v : Option Up) → count_in b n ≡ 4 → MatchOption v ⊥ (λ (x : Up). Halved b₁ (eqb h 0) n (Slot b n q) u.range u.node x b₂) → Grew b (suc h) n q v b₂
        over a s c e p None four m = absurd m
        over a s c e p (Some x) four m = grows-halved a s c e u p x b₂ four m

        go : (g : Grown (Tree h)) → After ≡ g → Result b h (child_in b n (Slot b n q)) o b₁ g → Grew b (suc h) n q v b₂
        go (whole a) e r = absurd (none-some u (sym r.nothing ∙ some))
        go (parts a s c) e r =
            let p : Parted b h (child_in b n (Slot b n q)) u b₁ a s c = rw some at r in
            let same = count_same b b₁ n same_here in let few = ready.stands.few in
            by-dec (dec_lt (count_in b n) 4)
            (λ d. grows-absorbed a s c e u p v b₂ (omega arith) (w.fits (omega arith)))
            (λ d. over a s c e p v (omega arith) (w.over (omega arith)))

    -- the node can be written: there is a node to take if it has four ranges
    can-widen : (n ≤ 63) × ((Slot b n q ≤ 4) × ((count_in b₁ n ≤ 4) × (1 ≤ count_in b₁ n)))
    can-widen =
        let same = count_same b b₁ n same_here in let few = ready.stands.few in let k = some-ranges in let i = slot-in in
        (ready.stands.number, (omega arith, (omega arith, omega arith)))

    can-take : (u : Up) → o ≡ Some u → count_in b₁ n ≡ 4 → 1 ≤ free_count b₁
    unfolding tree_at
    can-take u some is = go After refl grew.result
      where
        go : (g : Grown (Tree h)) → After ≡ g → Result b h (child_in b n (Slot b n q)) o b₁ g → 1 ≤ free_count b₁
        go (whole a) e r = absurd (none-some u (sym r.nothing ∙ some))
        go (parts a s c) e r =
            let p : Parted b h (child_in b n (Slot b n q)) u b₁ a s c = rw some at r in
            let same = count_same b b₁ n same_here in
            let l = (gains b (suc h) n q ready).full _ _ _ (insert-halve (free_number b) q h n (count_in b n) (range_in b n) (Kids b h n) a s c (omega arith) e) in
            let k = enough b (suc h) n q ready in let d = ap length p.free ∙ length-drop h (free_list b) in
            omega arith

-- below a leaf
pub grew-below : (b : List ℕ) (l n : ℕ) (q : Range) (u : Up) → l ≡ 0 → u.range ≡ q → Grew b l n q (Some u) b
grew-below b l n q u e range = rw e (base n)
  where
    base : (k : ℕ) → Grew b zero k q (Some u) b
    base k = unfold tree_at insert_at grown_nodes nodes occ in record {
      result = record { range = range; left = refl; right = refl; stands = tt; behind = tt; free = refl };
      stay = λ m o z. record { same = λ j l. refl };
      others = λ m z. record { same = λ j l. refl };
      root = refl;
    }

-- The same by levels, as the code has them

module _ (b : List ℕ) (l n : ℕ) (q : Range) (some : 0 < l) (ready : Ready b l n q) where
  level : l ≡ suc (l - 1)
  level = omega arith

  ready' : Ready b (suc (l - 1)) n q
  ready' = rw level at ready

  pub ready-slot : (n ≤ 63) × (count_in b n ≤ 4)
  ready-slot = (ready'.stands.number, ready'.stands.few)

  pub slot-few : (i : ℕ) → i ≡ Slot b n q → i ≤ 4
  slot-few i e = let x = slot-in b (l - 1) n q ready' in let y = ready'.stands.few in omega arith

  module _ (i : ℕ) (at : i ≡ Slot b n q) where
    pub child-ready : Ready b (l - 1) (child_in b n i) q
    child-ready = rw at (ready-child b (l - 1) n q ready')

    module _ (o : Option Up) (b₁ : List ℕ) (grew : Grew b (l - 1) (child_in b n i) q o b₁) where
      grew' : Grew b (l - 1) (child_in b n (Slot b n q)) q o b₁
      grew' = rw at at grew

      pub done-whole : o ≡ None → Grew b l n q None b₁
      done-whole e = let g : Grew b l n q o b₁ = rw level (grew-whole b (l - 1) n q ready' o b₁ grew' e) in rw e at g

      pub widen-can : (n ≤ 63) × ((i ≤ 4) × ((count_in b₁ n ≤ 4) × (1 ≤ count_in b₁ n)))
      widen-can = rw at (can-widen b (l - 1) n q ready' o b₁ grew')

      pub widen-take : (u : Up) → o ≡ Some u → count_in b₁ n ≡ 4 → 1 ≤ free_count b₁
      widen-take u e = can-take b (l - 1) n q ready' o b₁ grew' u e

      pub done-widened : (u : Up) → o ≡ Some u → (v : Option Up) (b₂ : List ℕ) → Widened b₁ (eqb l 1) n i u.range u.node v b₂ → Grew b l n q v b₂
      done-widened u e v b₂ w = rw level (grew-widened b (l - 1) n q ready' o b₁ grew' u e v b₂ (rw (leaf-level l some, at) at w))
