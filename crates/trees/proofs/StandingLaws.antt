-- Trees that stand in a buffer: what a written node holds, and that a subtree stays what it is where none of its nodes is written.
use mathlib.Core.Path.{◌≡◌, refl, sym, ap, ap₂, ◌∙◌}
use mathlib.Core.Bool.{Bool, true, cond}
use mathlib.Core.List.{List}
use Prim.Native.Nat.{ℕ, zero, suc, ◌+◌, ◌-◌, ◌*◌, ◌/◌, ◌%◌, ◌≤◌, ◌<◌}
use native.Mathlib.Omega.{arith}
use native.Mathlib.Decide.{dec_lt}
use lib.Dec.{eqb}
use lib.ListN.{get_or}
use borrow.Author.Tests.{eq-eqb, ne_eqb, eqb-true}
use Rattle.words.specs.Inner.{same_in}
use Rattle.words.proofs.Cases.{by-test, by-dec}
use Rattle.words.proofs.SearchLaws.{all_from_at, at-all_from}
use Rattle.trees.specs.declared.Range.{Range}
use Rattle.trees.specs.Nodes.{count_in, leaf_in, range_in, child_in, field_of, SameNode}
use Rattle.trees.specs.Trees.{Branch, Tree, nodes, branches, tree_at, occ}
use Rattle.trees.specs.Inner.Walk.{zeros_in, kids}
use Rattle.trees.specs.Inner.Places.{row_word, sum}
use Rattle.trees.specs.Inner.Standing.{Put, NodeIs, Stands}
use Rattle.trees.proofs.NodeLaws.{row_count, row-flag, row-no-range, row-range, row-no-child, row-child}
use Rattle.trees.proofs.CheckLaws.{kids-le}
use Rattle.trees.proofs.PlaceLaws.{branches-ext, occ-append, row-weight, sum_one}

-- Words

range-path : {a b c d a' b' c' d' : ℕ} → a ≡ a' → b ≡ b' → c ≡ c' → d ≡ d' → ◌≡◌ {A = Range} (record { base = a; limit = b; offset = c; rights = d }) (record { base = a'; limit = b'; offset = c'; rights = d' })
range-path e f g h i = record { base = e i; limit = f i; offset = g i; rights = h i }

-- the word at a place, however the place is written
at_place : (b : List ℕ) (x y : ℕ) → x ≡ y → get_or b x 0 ≡ get_or b y 0
at_place b x y e = ap (λ (z : ℕ). get_or b z 0) e

module _ (b b' : List ℕ) (m : ℕ) (same : SameNode b b' m) where
  word_same : (j x : ℕ) → j < 24 → x ≡ 1 + m * 24 + j → get_or b' x 0 ≡ get_or b x 0
  word_same j x h e = at_place b' x (1 + m * 24 + j) e ∙ same.same j h ∙ sym (at_place b x (1 + m * 24 + j) e)

  pub count_same : count_in b' m ≡ count_in b m
  unfolding count_in
  count_same = word_same 0 (1 + m * 24) (omega arith) (omega arith)

  pub leaf-same : leaf_in b' m ≡ leaf_in b m
  unfolding leaf_in
  leaf-same = word_same 1 (1 + m * 24 + 1) (omega arith) refl

  pub range_same : (i : ℕ) → i ≤ 3 → range_in b' m i ≡ range_in b m i
  unfolding range_in
  range_same i h =
      range-path (word_same (2 + i * 4) (1 + m * 24 + 2 + i * 4) (omega arith) (omega arith)) (word_same (2 + i * 4 + 1) (1 + m * 24 + 2 + i * 4 + 1) (omega arith) (omega arith))
      (word_same (2 + i * 4 + 2) (1 + m * 24 + 2 + i * 4 + 2) (omega arith) (omega arith)) (word_same (2 + i * 4 + 3) (1 + m * 24 + 2 + i * 4 + 3) (omega arith) (omega arith))

  pub child-same : (i : ℕ) → i ≤ 4 → child_in b' m i ≡ child_in b m i
  unfolding child_in
  child-same i h = word_same (18 + i) (1 + m * 24 + 18 + i) (omega arith) (omega arith)

  pub zeros-same : (k e : ℕ) → e ≤ 24 → zeros_in b m k e ≡ true → zeros_in b' m k e ≡ true
  unfolding zeros_in same_in
  zeros-same k e h t =
      at-all_from (e - k) (1 + m * 24 + k) (λ g. eqb (get_or b' g 0) 0)
      (λ g lo hi. let x : g ≡ 1 + m * 24 + (g - (1 + m * 24)) = omega arith in eq-eqb _ _ (word_same (g - (1 + m * 24)) g (omega arith) x ∙ eqb-true _ _ (all_from_at (e - k) (1 + m * 24 + k) (λ y. eqb (get_or b y 0) 0) t g lo hi)))

-- A node that is written

module _ (b : List ℕ) (n : ℕ) (f : ℕ → ℕ) (b' : List ℕ) (put : Put b n f b') where
  pub put_other : (m : ℕ) → (m ≡ n → ⊥) → SameNode b b' m
  put_other m h =
      record { same = λ j l. by-dec (dec_lt m n) (λ u. put.below (1 + m * 24 + j) (omega arith)) (λ u. put.above (1 + m * 24 + j) (omega arith)) }

  put_word : (j x : ℕ) → j < 24 → x ≡ 1 + n * 24 + j → get_or b' x 0 ≡ f j
  put_word j x h e = at_place b' x (1 + n * 24 + j) e ∙ put.inside j h

module _ (leaf : Bool) (k : ℕ) (r : ℕ → Range) (c : ℕ → ℕ) where
  word-range : (i q : ℕ) → i < k → k ≤ 4 → q < 4 → row_word leaf k r c (2 + i * 4 + q) ≡ field_of (r i) q
  word-range i q h l u =
      let a : (2 + i * 4 + q - 2) / 4 ≡ i = omega arith in
      let d : (2 + i * 4 + q - 2) % 4 ≡ q = omega arith in
      sym (row-range leaf k r c (2 + i * 4 + q) (omega arith) (omega arith) (omega arith)) ∙ rw (a, d)

  word-child : (i : ℕ) → i < kids leaf k → row_word leaf k r c (18 + i) ≡ c i
  word-child i h = let a : 18 + i - 18 ≡ i = omega arith in sym (row-child leaf k r c (18 + i) (omega arith) (omega arith) (omega arith)) ∙ ap c a

  pub put_is : (b : List ℕ) (n : ℕ) (b' : List ℕ) → k ≤ 4 → Put b n (row_word leaf k r c) b' → NodeIs b' leaf n k r c
  unfolding count_in leaf_in range_in child_in zeros_in same_in
  put_is b n b' few put = record {
    amount = put_word b n (row_word leaf k r c) b' put 0 (1 + n * 24) (omega arith) (omega arith) ∙ sym (row_count leaf k r c 0 refl);
    flag = put_word b n (row_word leaf k r c) b' put 1 (1 + n * 24 + 1) (omega arith) refl ∙ sym (row-flag leaf k r c 1 refl);
    ranges = λ i h. range-path
        (put_word b n (row_word leaf k r c) b' put (2 + i * 4 + 0) (1 + n * 24 + 2 + i * 4) (omega arith) (omega arith) ∙ word-range i 0 h few (omega arith) ∙ unfold field_of in refl)
        (put_word b n (row_word leaf k r c) b' put (2 + i * 4 + 1) (1 + n * 24 + 2 + i * 4 + 1) (omega arith) (omega arith) ∙ word-range i 1 h few (omega arith) ∙ unfold field_of in refl)
        (put_word b n (row_word leaf k r c) b' put (2 + i * 4 + 2) (1 + n * 24 + 2 + i * 4 + 2) (omega arith) (omega arith) ∙ word-range i 2 h few (omega arith) ∙ unfold field_of in refl)
        (put_word b n (row_word leaf k r c) b' put (2 + i * 4 + 3) (1 + n * 24 + 2 + i * 4 + 3) (omega arith) (omega arith) ∙ word-range i 3 h few (omega arith) ∙ unfold field_of in refl);
    children = λ i h. let l = kids-le leaf k in put_word b n (row_word leaf k r c) b' put (18 + i) (1 + n * 24 + 18 + i) (omega arith) (omega arith) ∙ word-child i h;
    no-ranges = at-all_from (18 - (2 + k * 4)) (1 + n * 24 + (2 + k * 4)) (λ g. eqb (get_or b' g 0) 0)
        (λ g lo hi. let x : g ≡ 1 + n * 24 + (g - (1 + n * 24)) = omega arith in eq-eqb _ _ (put_word b n (row_word leaf k r c) b' put (g - (1 + n * 24)) g (omega arith) x ∙ sym (row-no-range leaf k r c (g - (1 + n * 24)) (omega arith) (omega arith) (omega arith))));
    no-children = let l = kids-le leaf k in at-all_from (24 - (18 + kids leaf k)) (1 + n * 24 + (18 + kids leaf k)) (λ g. eqb (get_or b' g 0) 0)
        (λ g lo hi. let x : g ≡ 1 + n * 24 + (g - (1 + n * 24)) = omega arith in eq-eqb _ _ (put_word b n (row_word leaf k r c) b' put (g - (1 + n * 24)) g (omega arith) x ∙ sym (row-no-child leaf k r c (g - (1 + n * 24)) (omega arith) (omega arith) (omega arith))));
  }

-- Trees

abbrev pub TreeNode : (h : ℕ) → ℕ → ℕ → (ℕ → Range) → (ℕ → Tree h) → Tree (suc h)
TreeNode h n k r T = record { number = n; row = record { first = T 0; rest = branches r T k 0 } }

pub node-path : (h n k l : ℕ) (r q : ℕ → Range) (T U : ℕ → Tree h) → k ≡ l → ((i : ℕ) → i < k → r i ≡ q i) → ((i : ℕ) → i ≤ k → T i ≡ U i) → TreeNode h n k r T ≡ TreeNode h n l q U
node-path h n k l r q T U e d f =
    ap₂ (λ (x : Tree h) (y : List (Branch (Tree h))). record { number = n; row = record { first = x; rest = y } }) (f 0 (omega arith))
    (branches-ext r q T U k 0 (λ j lo hi. d j (omega arith)) (λ j lo hi. f j (omega arith)) ∙ ap (λ (x : ℕ). branches q U x 0) e)

pub tree-node : (b : List ℕ) (h n : ℕ) → tree_at b (suc h) n ≡ TreeNode h n (count_in b n) (range_in b n) (λ j. tree_at b h (child_in b n j))
unfolding tree_at
tree-node b h n = refl

pub kids-inner : (h k : ℕ) → kids (eqb (suc h) 0) k ≡ k + 1
unfolding kids
kids-inner h k = rw (ne_eqb (suc h) 0 (λ e. omega arith))

-- below a leaf there is nothing, whatever the words are
child-tree : (b : List ℕ) (h n k : ℕ) (c : ℕ → ℕ) → ((i : ℕ) → i < kids (eqb h 0) k → child_in b n i ≡ c i) → (i : ℕ) → i ≤ k → tree_at b h (child_in b n i) ≡ tree_at b h (c i)
unfolding tree_at
child-tree b zero n k c e i l = refl
child-tree b (suc h) n k c e i l = ap (tree_at b (suc h)) (e i (let u = kids-inner h k in omega arith))

-- the tree at a node of which the words are known
pub node-is-tree : (b : List ℕ) (h n k : ℕ) (r : ℕ → Range) (c : ℕ → ℕ) → NodeIs b (eqb h 0) n k r c → tree_at b (suc h) n ≡ TreeNode h n k r (λ j. tree_at b h (c j))
node-is-tree b h n k r c q =
    tree-node b h n
    ∙ sym (node-path h n k (count_in b n) r (range_in b n) (λ j. tree_at b h (c j)) (λ j. tree_at b h (child_in b n j)) (sym q.amount) (λ i l. sym (q.ranges i l)) (λ i l. sym (child-tree b h n k c q.children i l)))

child-stands : (b : List ℕ) (h n k least : ℕ) (c : ℕ → ℕ) → ((i : ℕ) → i < kids (eqb h 0) k → child_in b n i ≡ c i) → (i : ℕ) → i ≤ k → Stands b h least (c i) → Stands b h least (child_in b n i)
child-stands b zero n k least c e i l s = tt
child-stands b (suc h) n k least c e i l s = rw (e i (let u = kids-inner h k in omega arith)) s

-- and it stands where its children do
pub node-is-stands : (b : List ℕ) (h n k least : ℕ) (r : ℕ → Range) (c : ℕ → ℕ) → NodeIs b (eqb h 0) n k r c → n ≤ 63 → least ≤ k → k ≤ 4 → ((i : ℕ) → i ≤ k → Stands b h 2 (c i)) → Stands b (suc h) least n
node-is-stands b h n k least r c q num lo hi s =
    let a = q.amount in
    record {
      number = num;
      enough = omega arith;
      few = omega arith;
      flag = q.flag;
      no-ranges = rw a q.no-ranges;
      no-children = rw a q.no-children;
      below = λ i l. child-stands b h n k 2 c q.children i (omega arith) (s i (omega arith));
    }

-- Numbers in a tree

pub occ-node : (h n k : ℕ) (r : ℕ → Range) (T : ℕ → Tree h) (m : ℕ) → occ m (nodes (suc h) (TreeNode h n k r T)) ≡ cond (eqb n m) 1 0 + sum (suc k) (λ j. occ m (nodes h (T j)))
unfolding nodes occ
occ-node h n k r T m = ap (λ (x : ℕ). cond (eqb n m) 1 0 + x) (row-weight (occ m) refl (occ-append m) (nodes h) r T k)

-- whether m is the number x
unfoldable pub hit : ℕ → ℕ → ℕ
hit x m = cond (eqb x m) 1 0

pub hit_same : (x m : ℕ) → m ≡ x → hit x m ≡ 1
unfolding hit
hit_same x m e = rw (eq-eqb x m (sym e)) refl

pub hit_other : (x m : ℕ) → (m ≡ x → ⊥) → hit x m ≡ 0
unfolding hit
hit_other x m n = rw (ne_eqb x m (λ e. n (sym e))) refl

pub occ-at : (b : List ℕ) (h n m : ℕ) → occ m (nodes (suc h) (tree_at b (suc h) n)) ≡ hit n m + sum (suc (count_in b n)) (λ j. occ m (nodes h (tree_at b h (child_in b n j))))
unfolding tree_at hit
occ-at b h n m = occ-node h n (count_in b n) (range_in b n) (λ j. tree_at b h (child_in b n j)) m

sum-some : (n : ℕ) (f : ℕ → ℕ) → 1 ≤ sum n f → (j : ℕ) × (j < n) × (1 ≤ f j)
unfolding sum
sum-some zero f h = absurd (omega arith)
sum-some (suc n) f h = by-dec (dec_lt 0 (f n)) (λ l. (n, omega arith, l)) (λ l. let x = sum-some n f (omega arith) in let y = x.1 in (x.0, omega arith, x.2))

-- the nodes of a subtree that stands are used, and are among the 64
pub used : (b : List ℕ) (h least n : ℕ) → 1 ≤ least → Stands b h least n → (m : ℕ) → 1 ≤ occ m (nodes h (tree_at b h n)) → (1 ≤ count_in b m) × (m ≤ 63)
used b zero least n some s m o = absurd (none o)
  where
    none : 1 ≤ occ m (nodes zero (tree_at b zero n)) → ⊥
    none h = let z : occ m (nodes zero (tree_at b zero n)) ≡ 0 = unfold nodes occ in refl in omega arith
used b (suc h) least n some s m o =
    let e = occ-at b h n m in
    by-test (eqb n m)
    (λ t. let x : n ≡ m = eqb-true _ _ t in let c = s.enough in let d = s.number in let y = ap (count_in b) x in (omega arith, omega arith))
    (λ t. let z : hit n m ≡ 0 = unfold hit in rw t refl in
    let x = sum-some (suc (count_in b n)) (λ j. occ m (nodes h (tree_at b h (child_in b n j)))) (omega arith) in
    let l = x.1 in used b h 2 (child_in b n x.0) (omega arith) (s.below x.0 (omega arith)) m x.2)

-- a node's own number is in its tree, and so are the numbers of its children's trees
pub own-number : (b : List ℕ) (h n : ℕ) → 1 ≤ occ n (nodes (suc h) (tree_at b (suc h) n))
own-number b h n =
    let e = occ-at b h n n in
    let z = hit_same n n refl in
    omega arith

pub child-number : (b : List ℕ) (h n i : ℕ) → i ≤ count_in b n → (m : ℕ) → occ m (nodes h (tree_at b h (child_in b n i))) ≤ occ m (nodes (suc h) (tree_at b (suc h) n))
child-number b h n i l m =
    let e = occ-at b h n m in
    let x = sum_one (suc (count_in b n)) (λ j. occ m (nodes h (tree_at b h (child_in b n j)))) i (omega arith) in
    omega arith

-- a subtree none of whose nodes changed
pub record Kept (b b' : List ℕ) (h least n : ℕ) : Type 0 where
  pub tree : tree_at b' h n ≡ tree_at b h n
  pub stands : Stands b' h least n

pub kept : (b b' : List ℕ) (h least n : ℕ) → Stands b h least n → ((m : ℕ) → 1 ≤ occ m (nodes h (tree_at b h n)) → SameNode b b' m) → Kept b b' h least n
kept b b' zero least n s f = record { tree = unfold tree_at in refl; stands = tt }
kept b b' (suc h) least n s f =
    let own = f n (own-number b h n) in
    let few = s.few in
    let same = count_same b b' n own in
    let sub : (i : ℕ) → i ≤ count_in b n → Kept b b' h 2 (child_in b n i) = λ i l. kept b b' h 2 (child_in b n i) (s.below i l) (λ m o. let x = child-number b h n i l m in f m (omega arith)) in
    record {
      tree = tree-node b' h n
          ∙ sym (node-path h n (count_in b n) (count_in b' n) (range_in b n) (range_in b' n) (λ j. tree_at b h (child_in b n j)) (λ j. tree_at b' h (child_in b' n j)) (sym same)
          (λ i l. sym (range_same b b' n own i (omega arith)))
          (λ i l. sym (ap (tree_at b' h) (child-same b b' n own i (omega arith)) ∙ (sub i l).tree)))
          ∙ sym (tree-node b h n);
      stands = record {
        number = s.number;
        enough = rw same s.enough;
        few = rw same s.few;
        flag = leaf-same b b' n own ∙ s.flag;
        no-ranges = rw same (zeros-same b b' n own (2 + count_in b n * 4) 18 (omega arith) s.no-ranges);
        no-children = rw same (zeros-same b b' n own (18 + kids (eqb h 0) (count_in b n)) 24 (omega arith) s.no-children);
        below = λ i l. let k : i ≤ count_in b n = omega arith in rw (child-same b b' n own i (omega arith)) (sub i k).stands;
      };
    }
