-- Two neighbours mended in the buffer: the node holds the mended tree, and its children stand.
use mathlib.Core.Path.{◌≡◌, refl, sym, ap, ◌∙◌}
use mathlib.Core.Bool.{Bool, true, false, cond, ◌||◌}
use mathlib.Core.List.{List}
use Prim.Native.Nat.{ℕ, zero, suc, ◌+◌, ◌-◌, ◌≤◌, ◌<◌}
use native.Mathlib.Omega.{arith}
use native.Mathlib.Decide.{dec_lt, ℕ_discrete}
use lib.Dec.{ltb, eqb}
use borrow.Author.Tests.{eq-eqb, ne_eqb, eqb-true}
use Rattle.words.proofs.Cases.{by-test, by-dec, both_ways}
use Rattle.trees.specs.declared.Range.{Range}
use Rattle.trees.specs.Nodes.{count_in, range_in, child_in, SameNode}
use Rattle.trees.specs.Trees.{Tree, nodes, tree_at, occ}
use Rattle.trees.specs.Inner.Places.{placed, closed, behind, sum}
use Rattle.trees.specs.Inner.Standing.{NodeIs, Stands}
use Rattle.trees.specs.Inner.Shrinking.{JoinedRanges, JoinedChildren, Merged, Shared, Uneven, Mended, mend_tree}
use Rattle.trees.proofs.PlaceLaws.{placed-here, placed-other, sum-ext, sum_one, sum-two, sum-placed}
use Rattle.trees.proofs.StandingLaws.{TreeNode, node-path, node-is-tree, node-is-stands, tree-node, hit, hit_same, hit_other, occ-node, occ-at, Kept, kept}
use Rattle.trees.proofs.CloseLaws.{closed-low, closed-high, behind-low, behind-high, behind-map, closed-map, sum-closed, sum-behind}
use Rattle.trees.proofs.LineLaws.{thin-yes, thin-no}
use Rattle.trees.proofs.TakeLaws.{tree-even, tree-one, tree-two}

cut_sum : (a : ℕ) (f : ℕ → ℕ) → sum (3 + a) f ≡ sum 3 f + sum a (λ i. f (3 + i))
unfolding sum
cut_sum zero f = omega arith
cut_sum (suc a) f =
    let h = cut_sum a f in
    let e : 3 + suc a ≡ suc (3 + a) = omega arith in
    let d = ap (λ (x : ℕ). sum x f) e in
    omega arith

module _ (b : List ℕ) (g n j : ℕ) (un : Uneven b (suc g) n j) where
  abbrev X : ℕ
  X = child_in b n j

  abbrev Y : ℕ
  Y = child_in b n (suc j)

  abbrev Kid : ℕ → Tree (suc g)
  Kid i = tree_at b (suc g) (child_in b n i)

  abbrev Grand : ℕ → ℕ → Tree g
  Grand x i = tree_at b g (child_in b x i)

  -- how often m stands in a child, and below it
  kid-occ : ℕ → ℕ → ℕ
  kid-occ m i = occ m (nodes (suc g) (Kid i))

  low : ℕ → ℕ → ℕ
  low m x = sum (suc (count_in b x)) (λ i. occ m (nodes g (Grand x i)))

  kid_is : (m i : ℕ) → kid-occ m i ≡ hit (child_in b n i) m + low m (child_in b n i)
  unfolding kid-occ low
  kid_is m i = occ-at b g (child_in b n i) m

  all-occ : (m : ℕ) → occ m (nodes (suc (suc g)) (tree_at b (suc (suc g)) n)) ≡ hit n m + sum (suc (count_in b n)) (kid-occ m)
  unfolding kid-occ
  all-occ m = occ-at b (suc g) n m

  total : (m : ℕ) → hit n m + sum (suc (count_in b n)) (kid-occ m) ≤ 1
  total m = let e = all-occ m in let o = un.once m in omega arith

  both-in : (m : ℕ) → kid-occ m j + kid-occ m (suc j) ≤ sum (suc (count_in b n)) (kid-occ m)
  both-in m = let p = un.place in sum-two (suc (count_in b n)) (kid-occ m) j (suc j) (λ e. omega arith) (omega arith) (omega arith)

  x-not-n : X ≡ n → ⊥
  x-not-n e = let t = total n in let s = both-in n in let k = kid_is n j in let a = hit_same X n (sym e) in let c = hit_same n n refl in omega arith

  y-not-n : Y ≡ n → ⊥
  y-not-n e = let t = total n in let s = both-in n in let k = kid_is n (suc j) in let a = hit_same Y n (sym e) in let c = hit_same n n refl in omega arith

  x-not-y : X ≡ Y → ⊥
  x-not-y e = let t = total X in let s = both-in X in let k = kid_is X j in let l = kid_is X (suc j) in let a = hit_same X X refl in let c = hit_same Y X e in omega arith

  -- a number that is neither the node nor one of the two
  record Clear (m : ℕ) : Type 0 where
    off_n : m ≡ n → ⊥
    off-x : m ≡ X → ⊥
    off-y : m ≡ Y → ⊥

  low_clear : (m : ℕ) → 1 ≤ low m X + low m Y → Clear m
  low_clear m l =
      let t = total m in let s = both-in m in let k = kid_is m j in let u = kid_is m (suc j) in
      record {
        off_n = λ e. let a = hit_same n m e in omega arith;
        off-x = λ e. let a = hit_same X m e in omega arith;
        off-y = λ e. let a = hit_same Y m e in omega arith;
      }

  kid-clear : (i m : ℕ) → i ≤ count_in b n → (i ≡ j → ⊥) → (i ≡ suc j → ⊥) → 1 ≤ kid-occ m i → Clear m
  kid-clear i m l d e o =
      let t = total m in let k = kid_is m j in let u = kid_is m (suc j) in let p = un.place in
      let f = sum-two (suc (count_in b n)) (kid-occ m) i j d (omega arith) (omega arith) in let g = sum-two (suc (count_in b n)) (kid-occ m) i (suc j) e (omega arith) (omega arith) in
      record {
        off_n = λ q. let a = hit_same n m q in let s = sum_one (suc (count_in b n)) (kid-occ m) i (omega arith) in omega arith;
        off-x = λ q. let a = hit_same X m q in omega arith;
        off-y = λ q. let a = hit_same Y m q in omega arith;
      }

  module _ (b' : List ℕ) (others : (m : ℕ) → Clear m → SameNode b b' m) where
    other-kid : (i : ℕ) → i ≤ count_in b n → (i ≡ j → ⊥) → (i ≡ suc j → ⊥) → Kept b b' (suc g) 2 (child_in b n i)
    unfolding kid-occ
    other-kid i l d e = kept b b' (suc g) 2 (child_in b n i) (un.rest i l d e) (λ m o. others m (kid-clear i m l d e o))

    grand-x : (i : ℕ) → i ≤ count_in b X → Kept b b' g 2 (child_in b X i)
    unfolding low
    grand-x i l = kept b b' g 2 (child_in b X i) (un.left.below i l) (λ m o. others m (low_clear m (let s = sum_one (suc (count_in b X)) (λ k. occ m (nodes g (Grand X k))) i (omega arith) in omega arith)))

    grand-y : (i : ℕ) → i ≤ count_in b Y → Kept b b' g 2 (child_in b Y i)
    unfolding low
    grand-y i l = kept b b' g 2 (child_in b Y i) (un.right.below i l) (λ m o. others m (low_clear m (let s = sum_one (suc (count_in b Y)) (λ k. occ m (nodes g (Grand Y k))) i (omega arith) in omega arith)))

    abbrev JR : ℕ → Range
    JR = JoinedRanges b X (range_in b n j) Y

    abbrev JC : ℕ → ℕ
    JC = JoinedChildren b X Y

    abbrev JT : ℕ → Tree g
    JT = behind (Grand X) (count_in b X + 1) (Grand Y)

    joined-trees : (i : ℕ) → i ≤ count_in b X + 1 + count_in b Y → tree_at b' g (JC i) ≡ JT i
    joined-trees i l =
        by-dec (dec_lt i (count_in b X + 1))
        (λ u. ap (tree_at b' g) (behind-low (child_in b X) (count_in b X + 1) (child_in b Y) i u) ∙ (grand-x i (omega arith)).tree ∙ sym (behind-low (Grand X) (count_in b X + 1) (Grand Y) i u))
        (λ u. let v : count_in b X + 1 ≤ i = omega arith in ap (tree_at b' g) (behind-high (child_in b X) (count_in b X + 1) (child_in b Y) i v) ∙ (grand-y (i - (count_in b X + 1)) (omega arith)).tree ∙ sym (behind-high (Grand X) (count_in b X + 1) (Grand Y) i v))

    joined-stand : (i : ℕ) → i ≤ count_in b X + 1 + count_in b Y → Stands b' g 2 (JC i)
    joined-stand i l =
        by-dec (dec_lt i (count_in b X + 1))
        (λ u. rw (behind-low (child_in b X) (count_in b X + 1) (child_in b Y) i u) (grand-x i (omega arith)).stands)
        (λ u. let v : count_in b X + 1 ≤ i = omega arith in rw (behind-high (child_in b X) (count_in b X + 1) (child_in b Y) i v) (grand-y (i - (count_in b X + 1)) (omega arith)).stands)

  joined-low : (m : ℕ) → sum (suc (count_in b X + 1 + count_in b Y)) (λ i. occ m (nodes g (behind (Grand X) (count_in b X + 1) (Grand Y) i))) ≡ low m X + low m Y
  unfolding low
  joined-low m =
      let e : suc (count_in b X + 1 + count_in b Y) ≡ count_in b X + 1 + suc (count_in b Y) = omega arith in
      let d : count_in b X + 1 ≡ suc (count_in b X) = omega arith in
      ap (λ (x : ℕ). sum x (λ i. occ m (nodes g (behind (Grand X) (count_in b X + 1) (Grand Y) i)))) e
      ∙ sum-ext (count_in b X + 1 + suc (count_in b Y)) (λ i. occ m (nodes g (behind (Grand X) (count_in b X + 1) (Grand Y) i))) (behind (λ i. occ m (nodes g (Grand X i))) (count_in b X + 1) (λ i. occ m (nodes g (Grand Y i)))) (λ i l. behind-map (λ (t : Tree g). occ m (nodes g t)) (Grand X) (count_in b X + 1) (Grand Y) i)
      ∙ sum-behind (suc (count_in b Y)) (count_in b X + 1) (λ i. occ m (nodes g (Grand X i))) (λ i. occ m (nodes g (Grand Y i)))
      ∙ ap (λ (x : ℕ). sum x (λ i. occ m (nodes g (Grand X i))) + sum (suc (count_in b Y)) (λ i. occ m (nodes g (Grand Y i)))) d

  -- They become one

  abbrev Count : ℕ
  Count = count_in b X + 1 + count_in b Y

  module _ (b' : List ℕ) (bad : (ltb (count_in b X) 2 || ltb (count_in b Y) 2) ≡ true) (small : Count ≤ 4) (w : Merged b (eqb g 0) n j X Y b') where
    spare : (m : ℕ) → Clear m → SameNode b b' m
    spare m c = w.others m c.off_n c.off-x c.off-y

    abbrev One : Tree (suc g)
    One = TreeNode g X Count (JR b' spare) (JT b' spare)

    one-tree : tree_at b' (suc g) X ≡ One
    one-tree =
        node-is-tree b' g X Count (JR b' spare) (JC b' spare) w.left
        ∙ node-path g X Count Count (JR b' spare) (JR b' spare) (λ i. tree_at b' g (JC b' spare i)) (JT b' spare) refl (λ i l. refl) (λ i l. joined-trees b' spare i l)

    one-occ : (m : ℕ) → occ m (nodes (suc g) One) ≡ hit X m + (low m X + low m Y)
    unfolding hit
    one-occ m = occ-node g X Count (JR b' spare) (JT b' spare) m ∙ ap (λ (x : ℕ). cond (eqb X m) 1 0 + x) (joined-low m)

    abbrev Rest : ℕ → Tree (suc g)
    Rest = closed (placed Kid j One) (suc j)

    rest-trees : (i : ℕ) → i ≤ count_in b n - 1 → tree_at b' (suc g) (closed (child_in b n) (j + 1) i) ≡ Rest i
    rest-trees i l =
        let p = un.place in let z : j + 1 ≡ suc j = omega arith in
        by-dec (dec_lt i (suc j))
        (λ u. ap (tree_at b' (suc g)) (closed-low (child_in b n) (j + 1) i (omega arith))
        ∙ by-dec (ℕ_discrete i j) (λ d. rw d (one-tree ∙ sym (placed-here Kid j One))) (λ d. (other-kid b' spare i (omega arith) d (λ q. omega arith)).tree ∙ sym (placed-other Kid j One i d))
        ∙ sym (closed-low (placed Kid j One) (suc j) i u))
        (λ u. ap (tree_at b' (suc g)) (closed-high (child_in b n) (j + 1) i (omega arith)) ∙ (other-kid b' spare (i + 1) (omega arith) (λ q. omega arith) (λ q. omega arith)).tree
        ∙ sym (closed-high (placed Kid j One) (suc j) i (omega arith) ∙ placed-other Kid j One (i + 1) (λ q. omega arith)))

    one-stands : Stands b' (suc g) 2 X
    one-stands = let a = un.left.enough in let c = un.right.enough in node-is-stands b' g X Count 2 (JR b' spare) (JC b' spare) w.left un.left.number (omega arith) small (λ i l. joined-stand b' spare i l)

    rest-stand : (i : ℕ) → i ≤ count_in b n - 1 → Stands b' (suc g) 2 (closed (child_in b n) (j + 1) i)
    rest-stand i l =
        let p = un.place in
        by-dec (dec_lt i (suc j))
        (λ u. rw (closed-low (child_in b n) (j + 1) i (omega arith)) (by-dec (ℕ_discrete i j) (λ d. rw d one-stands) (λ d. (other-kid b' spare i (omega arith) d (λ q. omega arith)).stands)))
        (λ u. rw (closed-high (child_in b n) (j + 1) i (omega arith)) (other-kid b' spare (i + 1) (omega arith) (λ q. omega arith) (λ q. omega arith)).stands)

    inner-flag : NodeIs b' (eqb (suc g) 0) n (count_in b n - 1) (closed (range_in b n) j) (closed (child_in b n) (j + 1))
    inner-flag = rw (ne_eqb (suc g) 0 (λ e. omega arith)) w.node

    merged-tree : tree_at b' (suc (suc g)) n ≡ TreeNode (suc g) n (count_in b n - 1) (closed (range_in b n) j) Rest
    merged-tree =
        node-is-tree b' (suc g) n (count_in b n - 1) (closed (range_in b n) j) (closed (child_in b n) (j + 1)) inner-flag
        ∙ node-path (suc g) n (count_in b n - 1) (count_in b n - 1) (closed (range_in b n) j) (closed (range_in b n) j) (λ i. tree_at b' (suc g) (closed (child_in b n) (j + 1) i)) Rest refl (λ i l. refl) (λ i l. rest-trees i l)

    merged-occ : (m : ℕ) → occ m (nodes (suc (suc g)) (tree_at b' (suc (suc g)) n)) + hit Y m ≡ occ m (nodes (suc (suc g)) (tree_at b (suc (suc g)) n))
    merged-occ m =
        let p = un.place in
        let q = un.few in
        let e = ap (λ (t : Tree (suc (suc g))). occ m (nodes (suc (suc g)) t)) merged-tree ∙ node-occ m in
        let f = all-occ m in let k = kid_is m j in let l = kid_is m (suc j) in let o = one-occ m in
        let s = rest_sum m in
        omega arith
      where
        node-occ : (m : ℕ) → occ m (nodes (suc (suc g)) (TreeNode (suc g) n (count_in b n - 1) (closed (range_in b n) j) Rest)) ≡ hit n m + sum (suc (count_in b n - 1)) (λ i. occ m (nodes (suc g) (Rest i)))
        node-occ m = unfold hit in occ-node (suc g) n (count_in b n - 1) (closed (range_in b n) j) Rest m

        rest_sum : (m : ℕ) → sum (suc (count_in b n - 1)) (λ i. occ m (nodes (suc g) (Rest i))) + kid-occ m (suc j) + kid-occ m j ≡ sum (suc (count_in b n)) (kid-occ m) + occ m (nodes (suc g) One)
        rest_sum m =
            let p = un.place in
            let v : Tree (suc g) → ℕ = λ t. occ m (nodes (suc g) t) in
            let a = sum-ext (suc (count_in b n - 1)) (λ i. v (Rest i)) (closed (λ i. v (placed Kid j One i)) (suc j)) (λ i l. closed-map v (placed Kid j One) (suc j) i) in
            let c = sum-closed (suc (count_in b n - 1)) (λ i. v (placed Kid j One i)) (suc j) (omega arith) in
            let z : suc (suc (count_in b n - 1)) ≡ suc (count_in b n) = omega arith in
            let d = ap (λ (x : ℕ). sum x (λ i. v (placed Kid j One i))) z in
            let e = sum-ext (suc (count_in b n)) (λ i. v (placed Kid j One i)) (placed (kid-occ m) j (v One)) (λ i l. placed-kid m i) in
            let f = sum-placed (suc (count_in b n)) (kid-occ m) j (v One) (omega arith) in
            let h : v (placed Kid j One (suc j)) ≡ kid-occ m (suc j) = ap v (placed-other Kid j One (suc j) (λ q. omega arith)) ∙ unfold kid-occ in refl in
            omega arith
          where
            placed-kid : (m i : ℕ) → occ m (nodes (suc g) (placed Kid j One i)) ≡ placed (kid-occ m) j (occ m (nodes (suc g) One)) i
            placed-kid m i = unfold placed kid-occ in by-test (eqb i j) (λ t. rw t) (λ t. rw t)

    merged-mends : Mended b (suc g) n j b'
    merged-mends =
        record {
          tree = merged-tree ∙ sym (ap (mend_tree (suc g) j) (tree-node b (suc g) n)
              ∙ tree-one g n (count_in b n) (range_in b n) Kid j un.place X (count_in b X) (range_in b X) (Grand X) (tree-node b g X) Y (count_in b Y) (range_in b Y) (Grand Y) (tree-node b g Y) bad Count (omega arith) small);
          stands = λ least l. node-is-stands b' (suc g) n (count_in b n - 1) least (closed (range_in b n) j) (closed (child_in b n) (j + 1)) inner-flag un.number (omega arith) (let f = un.few in omega arith) (λ i k. rest-stand i k);
          fewer = λ m. let e = merged-occ m in omega arith;
          freed = λ m l z. let e = merged-occ m in by-dec (ℕ_discrete m Y) (λ d. rw d w.gone) (λ d. let h = hit_other Y m d in absurd (omega arith));
          others = w.others;
          root = w.root;
        }

  -- They share their ranges anew

  module _ (b' : List ℕ) (bad : (ltb (count_in b X) 2 || ltb (count_in b Y) 2) ≡ true) (large : 5 ≤ Count) (most : Count ≤ 6) (w : Shared b (eqb g 0) n j X Y b') where
    spare-s : (m : ℕ) → Clear m → SameNode b b' m
    spare-s m c = w.others m c.off_n c.off-x c.off-y

    abbrev More : ℕ
    More = count_in b X + count_in b Y - 2

    abbrev Ranges : ℕ → Range
    Ranges = JR b' spare-s

    abbrev Trees : ℕ → Tree g
    Trees = JT b' spare-s

    abbrev Low : Tree (suc g)
    Low = TreeNode g X 2 Ranges Trees

    abbrev High : Tree (suc g)
    High = TreeNode g Y More (λ i. Ranges (3 + i)) (λ i. Trees (3 + i))

    low-tree : tree_at b' (suc g) X ≡ Low
    low-tree =
        node-is-tree b' g X 2 Ranges (JC b' spare-s) w.left
        ∙ node-path g X 2 2 Ranges Ranges (λ i. tree_at b' g (JC b' spare-s i)) Trees refl (λ i l. refl) (λ i l. joined-trees b' spare-s i (omega arith))

    high-tree : tree_at b' (suc g) Y ≡ High
    high-tree =
        node-is-tree b' g Y More (λ i. Ranges (3 + i)) (λ i. JC b' spare-s (3 + i)) w.right
        ∙ node-path g Y More More (λ i. Ranges (3 + i)) (λ i. Ranges (3 + i)) (λ i. tree_at b' g (JC b' spare-s (3 + i))) (λ i. Trees (3 + i)) refl (λ i l. refl) (λ i l. joined-trees b' spare-s (3 + i) (omega arith))

    two-occ : (m : ℕ) → occ m (nodes (suc g) Low) + occ m (nodes (suc g) High) ≡ hit X m + hit Y m + (low m X + low m Y)
    unfolding hit
    two-occ m =
        let a = occ-node g X 2 Ranges Trees m in
        let c = occ-node g Y More (λ i. Ranges (3 + i)) (λ i. Trees (3 + i)) m in
        let s = cut_sum (suc More) (λ i. occ m (nodes g (Trees i))) in
        let z : 3 + suc More ≡ suc (count_in b X + 1 + count_in b Y) = omega arith in
        let d = ap (λ (x : ℕ). sum x (λ i. occ m (nodes g (Trees i)))) z in
        let l = joined-low m in
        omega arith

    abbrev Both : ℕ → Tree (suc g)
    Both = placed (placed Kid j Low) (suc j) High

    both-trees : (i : ℕ) → i ≤ count_in b n → tree_at b' (suc g) (child_in b n i) ≡ Both i
    both-trees i l =
        by-dec (ℕ_discrete i (suc j)) (λ d. rw d (high-tree ∙ sym (placed-here (placed Kid j Low) (suc j) High)))
        (λ d. by-dec (ℕ_discrete i j)
        (λ e. rw e (low-tree ∙ sym (placed-other (placed Kid j Low) (suc j) High j (λ q. omega arith) ∙ placed-here Kid j Low)))
        (λ e. (other-kid b' spare-s i l e d).tree ∙ sym (placed-other (placed Kid j Low) (suc j) High i d ∙ placed-other Kid j Low i e)))

    low_stands : Stands b' (suc g) 2 X
    low_stands = node-is-stands b' g X 2 2 Ranges (JC b' spare-s) w.left un.left.number (omega arith) (omega arith) (λ i l. joined-stand b' spare-s i (omega arith))

    high-stands : Stands b' (suc g) 2 Y
    high-stands = node-is-stands b' g Y More 2 (λ i. Ranges (3 + i)) (λ i. JC b' spare-s (3 + i)) w.right un.right.number (omega arith) (omega arith) (λ i l. joined-stand b' spare-s (3 + i) (omega arith))

    both-stand : (i : ℕ) → i ≤ count_in b n → Stands b' (suc g) 2 (child_in b n i)
    both-stand i l = by-dec (ℕ_discrete i (suc j)) (λ d. rw d high-stands) (λ d. by-dec (ℕ_discrete i j) (λ e. rw e low_stands) (λ e. (other-kid b' spare-s i l e d).stands))

    abbrev Between : ℕ → Range
    Between = placed (range_in b n) j (Ranges 2)

    inner-s : NodeIs b' (eqb (suc g) 0) n (count_in b n) Between (child_in b n)
    inner-s = rw (ne_eqb (suc g) 0 (λ e. omega arith)) w.node

    shared-tree : tree_at b' (suc (suc g)) n ≡ TreeNode (suc g) n (count_in b n) Between Both
    shared-tree =
        node-is-tree b' (suc g) n (count_in b n) Between (child_in b n) inner-s
        ∙ node-path (suc g) n (count_in b n) (count_in b n) Between Between (λ i. tree_at b' (suc g) (child_in b n i)) Both refl (λ i l. refl) (λ i l. both-trees i l)

    shared-occ : (m : ℕ) → occ m (nodes (suc (suc g)) (tree_at b' (suc (suc g)) n)) ≡ occ m (nodes (suc (suc g)) (tree_at b (suc (suc g)) n))
    shared-occ m =
        let p = un.place in
        let e = ap (λ (t : Tree (suc (suc g))). occ m (nodes (suc (suc g)) t)) shared-tree ∙ node-occ m in
        let f = all-occ m in let k = kid_is m j in let l = kid_is m (suc j) in let o = two-occ m in
        let a = sum-placed (suc (count_in b n)) (kid-occ m) j (occ m (nodes (suc g) Low)) (omega arith) in
        let c = sum-placed (suc (count_in b n)) (placed (kid-occ m) j (occ m (nodes (suc g) Low))) (suc j) (occ m (nodes (suc g) High)) (omega arith) in
        let d = placed-other (kid-occ m) j (occ m (nodes (suc g) Low)) (suc j) (λ q. omega arith) in
        let s = sum-ext (suc (count_in b n)) (λ i. occ m (nodes (suc g) (Both i))) (placed (placed (kid-occ m) j (occ m (nodes (suc g) Low))) (suc j) (occ m (nodes (suc g) High))) (λ i u. placed-both m i) in
        omega arith
      where
        node-occ : (m : ℕ) → occ m (nodes (suc (suc g)) (TreeNode (suc g) n (count_in b n) Between Both)) ≡ hit n m + sum (suc (count_in b n)) (λ i. occ m (nodes (suc g) (Both i)))
        node-occ m = unfold hit in occ-node (suc g) n (count_in b n) Between Both m

        placed-both : (m i : ℕ) → occ m (nodes (suc g) (Both i)) ≡ placed (placed (kid-occ m) j (occ m (nodes (suc g) Low))) (suc j) (occ m (nodes (suc g) High)) i
        placed-both m i = unfold placed kid-occ in by-test (eqb i (suc j)) (λ t. rw t) (λ t. rw t (by-test (eqb i j) (λ u. rw u) (λ u. rw u)))

    shared-mends : Mended b (suc g) n j b'
    shared-mends =
        record {
          tree = shared-tree ∙ sym (ap (mend_tree (suc g) j) (tree-node b (suc g) n)
              ∙ tree-two g n (count_in b n) (range_in b n) Kid j un.place X (count_in b X) (range_in b X) (Grand X) (tree-node b g X) Y (count_in b Y) (range_in b Y) (Grand Y) (tree-node b g Y) bad More (omega arith) (omega arith));
          stands = λ least l. node-is-stands b' (suc g) n (count_in b n) least Between (child_in b n) inner-s un.number (omega arith) un.few (λ i k. both-stand i k);
          fewer = λ m. let e = shared-occ m in omega arith;
          freed = λ m l z. let e = shared-occ m in absurd (omega arith);
          others = w.others;
          root = w.root;
        }

  -- Or neither is thin

  even-mends : (ltb (count_in b X) 2 || ltb (count_in b Y) 2) ≡ false → Mended b (suc g) n j b
  even-mends good = let cx = (thin-no (count_in b X) (count_in b Y) good).0 in let cy = (thin-no (count_in b X) (count_in b Y) good).1 in record {
    tree = tree-node b (suc g) n ∙ sym (ap (mend_tree (suc g) j) (tree-node b (suc g) n)
        ∙ tree-even g n (count_in b n) (range_in b n) Kid j un.place X (count_in b X) (range_in b X) (Grand X) (tree-node b g X) Y (count_in b Y) (range_in b Y) (Grand Y) (tree-node b g Y) good);
    stands = λ least l. record {
      number = un.number;
      enough = omega arith;
      few = un.few;
      flag = un.flag;
      no-ranges = un.no-ranges;
      no-children = un.no-children;
      below = λ i k. by-dec (ℕ_discrete i j)
          (λ e. rw e (record { number = un.left.number; enough = cx; few = un.left.few; flag = un.left.flag; no-ranges = un.left.no-ranges; no-children = un.left.no-children; below = un.left.below }))
          (λ e. by-dec (ℕ_discrete i (suc j))
          (λ d. rw d (record { number = un.right.number; enough = cy; few = un.right.few; flag = un.right.flag; no-ranges = un.right.no-ranges; no-children = un.right.no-children; below = un.right.below }))
          (λ d. un.rest i k e d));
    };
    fewer = λ m. omega arith;
    freed = λ m l z. absurd (omega arith);
    others = λ m d e f. record { same = λ k l. refl };
    root = refl;
  }

-- The same by levels, as the code has them

module _ (b : List ℕ) (l n j : ℕ) (two : 2 ≤ l) (un : Uneven b (l - 1) n j) (x y : ℕ) (at_x : x ≡ child_in b n j) (at_y : y ≡ child_in b n (j + 1)) where
  lower : l - 1 ≡ suc (l - 2)
  lower = omega arith

  un' : Uneven b (suc (l - 2)) n j
  un' = rw lower at un

  at-y' : y ≡ child_in b n (suc j)
  at-y' = let e : j + 1 ≡ suc j = omega arith in at_y ∙ ap (child_in b n) e

  pub mend-kids : (x ≤ 63) × ((y ≤ 63) × ((count_in b x ≤ 4) × (count_in b y ≤ 4)))
  mend-kids = rw (at_x, at-y') (un'.left.number, (un'.right.number, (un'.left.few, un'.right.few)))

  pub mend-off : (x ≡ n → ⊥) × ((y ≡ n → ⊥) × (x ≡ y → ⊥))
  mend-off = rw (at_x, at-y') (x-not-n b (l - 2) n j un', (y-not-n b (l - 2) n j un', x-not-y b (l - 2) n j un'))

  leaf-is : eqb l 2 ≡ eqb (l - 2) 0
  leaf-is = both_ways (eqb l 2) (eqb (l - 2) 0) (λ t. let e : l ≡ 2 = eqb-true _ _ t in eq-eqb (l - 2) 0 (omega arith)) (λ t. let e : l - 2 ≡ 0 = eqb-true _ _ t in eq-eqb l 2 (omega arith))

  module _ (cx cy : ℕ) (is_x : cx ≡ count_in b x) (is_y : cy ≡ count_in b y) (v : Bool) (tested : v ≡ (ltb cx 2 || ltb cy 2)) where
    thin_is : v ≡ (ltb (count_in b (child_in b n j)) 2 || ltb (count_in b (child_in b n (suc j))) 2)
    thin_is = rw (is_x, is_y, at_x, at-y') at tested

    count-is : cx + 1 + cy ≡ count_in b (child_in b n j) + 1 + count_in b (child_in b n (suc j))
    count-is = rw (is_x, is_y, at_x, at-y')

    -- what the two hold and the range between fit into two nodes
    pub mend-few : v ≡ true → cx + cy ≤ 5
    mend-few t = let k = mend-kids in let e = k.1.1 in thin-yes cx cy (omega arith) (omega arith) (sym tested ∙ t)

    pub mend-even : v ≡ false → Mended b (l - 1) n j b
    mend-even t = rw lower (even-mends b (l - 2) n j un' (sym thin_is ∙ t))

    module _ (b' : List ℕ) (t : v ≡ true) where
      pub mend-merged : cx + cy < 4 → Merged b (eqb l 2) n j x y b' → Mended b (l - 1) n j b'
      mend-merged s w = let e = count-is in rw lower (merged-mends b (l - 2) n j un' b' (sym thin_is ∙ t) (omega arith) (rw (leaf-is, at_x, at-y') at w))

      pub mend-shared : 4 ≤ cx + cy → Shared b (eqb l 2) n j x y b' → Mended b (l - 1) n j b'
      mend-shared s w = let e = count-is in let f = mend-few t in rw lower (shared-mends b (l - 2) n j un' b' (sym thin_is ∙ t) (omega arith) (omega arith) (rw (leaf-is, at_x, at-y') at w))
