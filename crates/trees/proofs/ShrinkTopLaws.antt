-- A removal from the whole tree: what the buffer holds after it, and which nodes keep their words.
use mathlib.Core.Path.{◌≡◌, refl, sym, ap, ◌∙◌}
use mathlib.Core.Bool.{true}
use mathlib.Core.List.{List}
use Prim.Native.Nat.{ℕ, zero, suc, ◌+◌, ◌-◌, ◌≤◌, ◌<◌}
use native.Mathlib.Omega.{arith}
use native.Mathlib.Decide.{dec_lt, ℕ_discrete}
use lib.ListN.{length, set}
use lib.Seq.{get_or-set_same}
use Rattle.words.proofs.Cases.{by-dec}
use Rattle.trees.specs.declared.Range.{Range}
use Rattle.trees.specs.Nodes.{root_in, count_in, range_in, child_in}
use Rattle.trees.specs.Trees.{Tree, nodes, branches, root_of, tree_at, height_of, tree_of, occ, OthersStay}
use Rattle.trees.specs.Removal.{lowered, remove_from, remove_tree, removal_way}
use Rattle.trees.specs.Inner.Walk.{zeros_in, lawful}
use Rattle.trees.specs.Inner.Places.{sum}
use Rattle.trees.specs.Inner.Standing.{Put, Stands}
use Rattle.trees.specs.Inner.Shrinking.{Loose, take_level, Took, RootGone}
use Rattle.trees.specs.Inner.Holding.{Holding}
use Rattle.trees.proofs.StandingLaws.{put_other, TreeNode, tree-node, hit, hit_same, hit_other, occ-at, kept, zeros-same}
use Rattle.trees.proofs.WidenLaws.{same-trans, root-set}
use Rattle.trees.proofs.LineLaws.{cleared}
use Rattle.trees.proofs.TopLaws.{top-stands, top-once, top-free}
use Rattle.trees.proofs.TakeLaws.{own-way}
use Rattle.trees.proofs.SearchLaws.{stands-less}

-- what a removal of BASE c leaves
abbrev Removed : List ℕ → ℕ → List ℕ → Type 0
Removed b c b' = Holding b' (remove_tree c (tree_of b)) × OthersStay b (nodes (height_of b) (tree_at b (height_of b) (root_in b))) (removal_way c (height_of b) (tree_at b (height_of b) (root_in b))) b'

lowered-some : (h n k : ℕ) (r : ℕ → Range) (T : ℕ → Tree h) → 1 ≤ k → lowered h n (T 0) (branches r T k 0) ≡ record { height = suc h; tree = TreeNode h n k r T }
unfolding lowered branches
lowered-some h n zero r T l = absurd (omega arith)
lowered-some h n (suc k) r T l = refl

lowered_none : (h n k : ℕ) (r : ℕ → Range) (T : ℕ → Tree h) → k ≡ 0 → lowered h n (T 0) (branches r T k 0) ≡ record { height = h; tree = T 0 }
unfolding lowered branches
lowered_none h n k r T e = rw e

module _ (b : List ℕ) (c h : ℕ) (is : lawful b ≡ true) (high : height_of b ≡ suc h) where
  abbrev Top : ℕ
  Top = root_in b

  abbrev Whole : Tree (suc h)
  Whole = tree_at b (suc h) Top

  stands-top : Stands b (suc h) 1 Top
  stands-top = rw high at (top-stands b is)

  once-top : (m : ℕ) → occ m (nodes (suc h) Whole) ≤ 1
  once-top = rw high at (top-once b is)

  free-top : (m : ℕ) → m < 64 → occ m (nodes (suc h) Whole) ≡ 0 → zeros_in b m 0 24 ≡ true
  free-top = rw high at (top-free b is)

  loose-top : Loose b (suc h) Top
  loose-top = record { least = 1; some = omega arith; stands = stands-top; once = once-top }

  module _ (s : Range) (b₁ : List ℕ) (took : Took b c (suc h) Top s b₁) where
    removed-is : remove_tree c (tree_of b) ≡ lowered h Top (tree_at b₁ h (child_in b₁ Top 0)) (branches (range_in b₁ Top) (λ j. tree_at b₁ h (child_in b₁ Top j)) (count_in b₁ Top) 0)
    unfolding remove_tree tree_of
    removed-is =
        ap (λ (k : ℕ). remove_from c k (tree_at b k Top)) high
        ∙ unfold remove_from take_level in ap (λ (t : Tree (suc h)). lowered h t.number t.row.first t.row.rest) (sym took.tree ∙ tree-node b₁ h Top)

    free₁ : (m : ℕ) → m < 64 → occ m (nodes (suc h) (tree_at b₁ (suc h) Top)) ≡ 0 → zeros_in b₁ m 0 24 ≡ true
    free₁ m l z =
        by-dec (dec_lt 0 (occ m (nodes (suc h) Whole))) (λ k. took.freed m k z)
        (λ k. let y : occ m (nodes (suc h) Whole) ≡ 0 = omega arith in zeros-same b b₁ m (took.others m y) 0 24 (omega arith) (free-top m l y))

    root₁ : root_in b₁ ≡ Top
    unfolding root_in
    root₁ = took.root

    stands₁ : Stands b₁ (suc h) 0 Top
    stands₁ = took.stands 0 stands-top

    -- the root keeps a range
    stays : length b₁ ≡ 1537 → 1 ≤ count_in b₁ Top → Removed b c b₁
    stays size some =
        let e = removed-is ∙ lowered-some h Top (count_in b₁ Top) (range_in b₁ Top) (λ j. tree_at b₁ h (child_in b₁ Top j)) some in
        let st = stands₁ in (
          rw e (record {
            size = size;
            root = root₁ ∙ unfold root_of in refl;
            tree = ap (tree_at b₁ (suc h)) root₁ ∙ tree-node b₁ h Top;
            stands = rw root₁ (record { number = st.number; enough = some; few = st.few; flag = st.flag; no-ranges = st.no-ranges; no-children = st.no-children; below = st.below });
            free = λ m l z. free₁ m l (ap (λ (t : Tree (suc h)). occ m (nodes (suc h) t)) (tree-node b₁ h Top) ∙ z);
          }),
          record { stay = rw high took.stay },
        )

    -- the root goes
    module _ (gone : count_in b₁ Top ≡ 0) (v : ℕ) (b₂ : List ℕ) (w : RootGone b₁ Top v b₂) where
      abbrev First : Tree h
      First = tree_at b₁ h (child_in b₁ Top 0)

      left_is : remove_tree c (tree_of b) ≡ record { height = h; tree = First }
      left_is = removed-is ∙ lowered_none h Top (count_in b₁ Top) (range_in b₁ Top) (λ j. tree_at b₁ h (child_in b₁ Top j)) gone

      in-root : (m : ℕ) → occ m (nodes (suc h) (tree_at b₁ (suc h) Top)) ≡ hit Top m + occ m (nodes h First)
      unfolding sum
      in-root m =
          let e = occ-at b₁ h Top m in
          let d = ap (λ (k : ℕ). sum (suc k) (λ j. occ m (nodes h (tree_at b₁ h (child_in b₁ Top j))))) gone in
          omega arith

      free₂ : (m : ℕ) → m < 64 → occ m (nodes h First) ≡ 0 → zeros_in b₂ m 0 24 ≡ true
      free₂ m l z =
          by-dec (ℕ_discrete m Top) (λ d. rw d w.gone)
          (λ d. zeros-same b₁ b₂ m (w.others m d) 0 24 (omega arith) (free₁ m l (let a = in-root m in let o = hit_other Top m d in omega arith)))

      stay₂ : OthersStay b (nodes (height_of b) (tree_at b (height_of b) Top)) (removal_way c (height_of b) (tree_at b (height_of b) Top)) b₂
      stay₂ = rw high (record { stay = λ m l z. same-trans (took.stay m l z) (w.others m (λ e. let o = on-way in let d = ap (λ (x : ℕ). occ x (removal_way c (suc h) Whole)) e in omega arith)) })
        where
          on-way : 1 ≤ occ Top (removal_way c (suc h) Whole)
          on-way = unfold tree_at in own-way c h Whole

      root₂ : root_in b₂ ≡ v
      unfolding root_in
      root₂ = w.root

      -- it was a leaf: the tree is empty
      empty : length b₂ ≡ 1537 → h ≡ 0 → v ≡ 64 → Removed b c b₂
      empty size e is_none = (
        rw (left_is, e) (record {
          size = size;
          root = root₂ ∙ is_none ∙ unfold root_of in refl;
          tree = refl;
          stands = tt;
          free = λ m l z. free₂ m l (rw e (unfold nodes occ in refl));
        }),
        stay₂,
      )

      -- its one child is the root
      lower : length b₂ ≡ 1537 → (g : ℕ) → h ≡ suc g → v ≡ child_in b₁ Top 0 → Removed b c b₂
      lower size g e is-child =
          let rt : root_in b₂ ≡ child_in b₁ Top 0 = root₂ ∙ is-child in
          let kp = kept b₁ b₂ h 2 (child_in b₁ Top 0) (stands₁.below 0 (omega arith)) (λ m o. w.others m (off m o)) in (
            rw left_is (record {
              size = size;
              root = rt ∙ number;
              tree = ap (tree_at b₂ h) rt ∙ kp.tree;
              stands = rw rt (stands-less b₂ h 2 1 (child_in b₁ Top 0) (omega arith) kp.stands);
              free = free₂;
            }),
            stay₂,
          )
        where
          off : (m : ℕ) → 1 ≤ occ m (nodes h First) → m ≡ Top → ⊥
          off m l d = let a = in-root m in let f = took.fewer m in let o = once-top m in let k = hit_same Top m d in omega arith

          number : child_in b₁ Top 0 ≡ root_of h First
          number = rw e (unfold root_of tree_at in refl)

-- The same by levels, as the code has them

module _ (b : List ℕ) (l n : ℕ) (is : lawful b ≡ true) (at-l : l ≡ height_of b) (some : 1 ≤ l) (at_n : n ≡ root_in b) where
  high : height_of b ≡ suc (l - 1)
  high = omega arith

  level : l ≡ suc (l - 1)
  level = omega arith

  pub top-loose : Loose b l n
  top-loose = rw (level, at_n) (loose-top b 0 (l - 1) is high)

  pub top-number : n ≤ 63
  top-number = let st = stands-top b 0 (l - 1) is high in rw at_n st.number

  module _ (c : ℕ) (s : Range) (b₁ : List ℕ) (took : Took b c l n s b₁) where
    took' : Took b c (suc (l - 1)) (root_in b) s b₁
    took' = rw (level, at_n) at took

    pub top-stays : length b₁ ≡ 1537 → 0 < count_in b₁ n → Removed b c b₁
    top-stays size k = stays b c (l - 1) is high s b₁ took' size (rw at_n at k)

    -- the root of two levels or more has a first child
    pub top-first : (l ≡ 1 → ⊥) → child_in b₁ n 0 ≤ 63
    top-first e = rw at_n (first-number (l - 1) (l - 2) (omega arith) ((stands₁ b c (l - 1) is high s b₁ took').below 0 (omega arith)))
      where
        first-number : (h g : ℕ) → h ≡ suc g → Stands b₁ h 2 (child_in b₁ (root_in b) 0) → child_in b₁ (root_in b) 0 ≤ 63
        first-number h g d st = (rw d at st).number

    module _ (none : count_in b₁ n ≡ 0) (b₂ : List ℕ) (size : length b₂ ≡ 1537) where
      pub top-empty : l ≡ 1 → RootGone b₁ n 64 b₂ → Removed b c b₂
      top-empty e w = empty b c (l - 1) is high s b₁ took' (rw at_n at none) 64 b₂ (rw at_n at w) size (omega arith) refl

      pub top-lowered : (l ≡ 1 → ⊥) → (v : ℕ) → v ≡ child_in b₁ n 0 → RootGone b₁ n v b₂ → Removed b c b₂
      top-lowered e v d w = lower b c (l - 1) is high s b₁ took' (rw at_n at none) v b₂ (rw at_n at w) size (l - 2) (omega arith) (rw at_n at d)

-- the root is cleared, then its number written
pub root-gone : (b b₁ b₂ : List ℕ) (n v : ℕ) → Put b n (λ j. 0) b₁ → b₂ ≡ set b₁ 0 v → 0 < length b₁ → RootGone b n v b₂
root-gone b b₁ b₂ n v p e l = rw e (record {
  gone = zeros-same b₁ (set b₁ 0 v) n (root-set b₁ v n) 0 24 (omega arith) (cleared b b₁ n p);
  others = λ m d. same-trans (put_other b n (λ j. 0) b₁ p m d) (root-set b₁ v m);
  root = get_or-set_same b₁ 0 v 0 l;
})
