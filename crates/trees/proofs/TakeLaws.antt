-- A removal from a row, by place: mending two neighbours, and taking a range out.
use mathlib.Core.Path.{◌≡◌, refl, sym, ap, ap₂, ◌∙◌}
use mathlib.Core.Bool.{Bool, true, false, cond, ◌||◌}
use mathlib.Core.List.{List, [], ◌∷◌, ◌++◌}
use Prim.Native.Nat.{ℕ, zero, suc, ◌+◌, ◌-◌, ◌≤◌, ◌<◌}
use native.Mathlib.Omega.{arith}
use native.Mathlib.Numerals.{add-one}
use native.Mathlib.Decide.{dec_lt}
use lib.Dec.{ltb, eqb}
use borrow.Author.Tests.{lt-ltb, le-ltb, eq-eqb}
use Rattle.words.proofs.Cases.{by-test, by-dec, true-false}
use Rattle.trees.specs.declared.Range.{Range}
use Rattle.trees.specs.Trees.{Branch, Node, Tree, branches, occ}
use Rattle.trees.specs.Insertion.{whole, parts, spread, before, parted}
use Rattle.trees.specs.Removal.{joined, thin, mended, Taken, take_branch, take_here, take_row, take_at, way_beside, removal_way}
use Rattle.trees.specs.Inner.Places.{first_at, placed, opened, closed, behind}
use Rattle.trees.specs.Inner.Shrinking.{slot_under, within, found_at, mend_row, mend_tree}
use Rattle.trees.proofs.PlaceLaws.{branch-path, row-path, placed-here, placed-other, opened-here, opened-next, length-branches, branches-ext, branches-behind, branches-shift}
use Rattle.trees.proofs.StandingLaws.{TreeNode}
use Rattle.trees.proofs.GainLaws.{parted-one, parted-two}
use Rattle.trees.proofs.CloseLaws.{closed-low, closed-high, behind-low, behind-high}

taken-path : {A : Type 0} {r q : Range} {a c : A} → r ≡ q → a ≡ c → ◌≡◌ {A = Taken A} (record { range = r; left = a }) (record { range = q; left = c })
taken-path e d i = record { range = e i; left = d i }

-- Rows

-- without the first range and the child behind it
branches-closed : {A : Type 0} (r : ℕ → Range) (T : ℕ → A) (k i : ℕ) → branches (closed r i) (closed T (suc i)) k i ≡ branches r T k (suc i)
branches-closed r T k i =
    sym (branches-behind (closed r i) r (closed T (suc i)) T k i
    (λ j l. sym (closed-high r i j l ∙ ap r (add-one j)))
    (λ j l. sym (closed-high T (suc i) j l ∙ ap T (add-one j))))

branches-append : {A : Type 0} (r : ℕ → Range) (T : ℕ → A) (a c i s t : ℕ) → s ≡ i + a → t ≡ a + c → branches r T a i ++ branches r T c s ≡ branches r T t i
unfolding branches
branches-append r T zero c i s t e d = let x : s ≡ i = omega arith in let y : t ≡ c = omega arith in rw (x, y)
branches-append r T (suc a) c i s t e d =
    let y : t ≡ suc (a + c) = omega arith in
    rw y (ap (λ (l : List (Branch _)). record { range = r i; child = T (suc i) } ∷ l) (branches-append r T a c (suc i) s (a + c) (omega arith) refl))

-- Two neighbours by place: the ranges q and children U of the one, a of them, s, and the ranges p and children W of the other, c of them

module _ {A : Type 0} (q : ℕ → Range) (U : ℕ → A) (a : ℕ) (s : Range) (p : ℕ → Range) (W : ℕ → A) (c : ℕ) where
  abbrev Ranges : ℕ → Range
  Ranges = behind q a (opened p 0 s)

  abbrev Children : ℕ → A
  Children = behind U (a + 1) W

  second_range : (j : ℕ) → Ranges (suc a + j) ≡ p j
  second_range j =
      let z : suc a + j - a ≡ suc j = omega arith in
      behind-high q a (opened p 0 s) (suc a + j) (omega arith) ∙ ap (opened p 0 s) z ∙ opened-next p 0 s j (omega arith)

  second-child : (j : ℕ) → Children (suc a + j) ≡ W j
  second-child j = let z : suc a + j - (a + 1) ≡ j = omega arith in behind-high U (a + 1) W (suc a + j) (omega arith) ∙ ap W z

  joined-row : (t : ℕ) → t ≡ a + suc c → joined (record { first = U 0; rest = branches q U a 0 }) s (record { first = W 0; rest = branches p W c 0 }) ≡ record { first = Children 0; rest = branches Ranges Children t 0 }
  unfolding joined
  joined-row t e =
      row-path (sym (behind-low U (a + 1) W 0 (omega arith)))
      (ap₂ ◌++◌ (branches-ext q Ranges U Children a 0 (λ j l u. sym (behind-low q a (opened p 0 s) j (omega arith))) (λ j l u. sym (behind-low U (a + 1) W j (omega arith)))) tail
      ∙ branches-append Ranges Children a (suc c) 0 a t (omega arith) e)
    where
      tail : ◌≡◌ {A = List (Branch A)} (record { range = s; child = W 0 } ∷ branches p W c 0) (branches Ranges Children (suc c) a)
      tail = unfold branches in
          (let z : a - a ≡ 0 = omega arith in let y : suc a + 0 ≡ suc a = omega arith in
          ap₂ ◌∷◌ (branch-path (sym (behind-high q a (opened p 0 s) a (omega arith) ∙ ap (opened p 0 s) z ∙ opened-here p 0 s)) (sym (second-child 0) ∙ ap Children y))
          (sym (sym (ap (branches Ranges Children c) y) ∙ branches-shift Ranges Children (suc a) c 0
          ∙ branches-ext (λ j. Ranges (suc a + j)) p (λ j. Children (suc a + j)) W c 0 (λ j l u. second_range j) (λ j l u. second-child j))))

-- Mending the children at places p and p + 1 of a row that starts at place i

module _ {A : Type 0} (r : ℕ → Range) (T : ℕ → Node A) where
  mend-even : (k i j p : ℕ) → p ≡ i + j → j < k → (thin (T p) || thin (T (suc p))) ≡ false → mend_row j (T i) (branches r T k i) ≡ record { first = T i; rest = branches r T k i }
  unfolding mend_row branches mended before
  mend-even zero i j p e l t = absurd (omega arith)
  mend-even (suc k) i zero p e l t = let d : p ≡ i = omega arith in let u = rw d at t in rw u
  mend-even (suc k) i (suc j) p e l t = rw (mend-even k (suc i) j p (omega arith) (omega arith) t)

  module _ (p : ℕ) (bad : (thin (T p) || thin (T (suc p))) ≡ true) where
    mend-one : (M : Node A) → parted (T p).number (T (suc p)).number (joined (T p).row (r p) (T (suc p)).row) ≡ whole M
        → (k i j : ℕ) → p ≡ i + j → j ≤ k → mend_row j (T i) (branches r T (suc k) i) ≡ record { first = closed (placed T p M) (suc p) i; rest = branches (closed r p) (closed (placed T p M) (suc p)) k i }
    unfolding mend_row branches mended before spread
    mend-one M e k i zero at l =
        let d : p ≡ i = omega arith in
        let t = rw d at bad in let f = rw d at e in
        rw (t, f, d)
        (row-path (sym (closed-low (placed T i M) (suc i) i (omega arith) ∙ placed-here T i M))
        (branches-ext r r T (placed T i M) k (suc i) (λ j u v. refl) (λ j u v. sym (placed-other T i M j (λ x. omega arith))) ∙ sym (branches-closed r (placed T i M) k i)))
    mend-one M e zero i (suc j) at l = absurd (omega arith)
    mend-one M e (suc k) i (suc j) at l =
        rw (mend-one M e k (suc i) j (omega arith) (omega arith))
        (row-path (sym (closed-low (placed T p M) (suc p) i (omega arith) ∙ placed-other T p M i (λ x. omega arith)))
        (ap₂ ◌∷◌ (branch-path (sym (closed-low r p i (omega arith))) refl) refl))

    mend-two : (X : Node A) (s : Range) (Y : Node A) → parted (T p).number (T (suc p)).number (joined (T p).row (r p) (T (suc p)).row) ≡ parts X s Y
        → (k i j : ℕ) → p ≡ i + j → j < k → mend_row j (T i) (branches r T k i) ≡ record { first = placed (placed T p X) (suc p) Y i; rest = branches (placed r p s) (placed (placed T p X) (suc p) Y) k i }
    unfolding mend_row branches mended before spread
    mend-two X s Y e zero i j at l = absurd (omega arith)
    mend-two X s Y e (suc k) i zero at l =
        let d : p ≡ i = omega arith in
        let t = rw d at bad in let f = rw d at e in
        rw (t, f)
        (row-path (sym (placed-other (placed T i X) (suc i) Y i (λ x. omega arith) ∙ placed-here T i X))
        (ap₂ ◌∷◌ (branch-path (sym (placed-here r i s)) (sym (placed-here (placed T i X) (suc i) Y)))
        (branches-ext r (placed r i s) T (placed (placed T i X) (suc i) Y) k (suc i) (λ j u v. sym (placed-other r i s j (λ x. omega arith)))
        (λ j u v. sym (placed-other (placed T i X) (suc i) Y j (λ x. omega arith) ∙ placed-other T i X j (λ x. omega arith)))))
        ∙ ap (λ y. record { first = placed (placed T y X) (suc y) Y i; rest = branches (placed r y s) (placed (placed T y X) (suc y) Y) (suc k) i }) (sym d))
    mend-two X s Y e (suc k) i (suc j) at l =
        rw (mend-two X s Y e k (suc i) j (omega arith) (omega arith))
        (row-path (sym (placed-other (placed T p X) (suc p) Y i (λ x. omega arith) ∙ placed-other T p X i (λ x. omega arith)))
        (ap₂ ◌∷◌ (branch-path (sym (placed-other r p s i (λ x. omega arith))) refl) refl))

-- The same in a tree

thin-node : (g x a : ℕ) (q : ℕ → Range) (U : ℕ → Tree g) → thin (TreeNode g x a q U) ≡ ltb a 2
unfolding thin
thin-node g x a q U = rw (length-branches q U a 0)

module _ (g n k : ℕ) (r : ℕ → Range) (T : ℕ → Tree (suc g)) (j : ℕ) (place : j < k) where
  -- its children at places j and j + 1
  module _ (x a : ℕ) (q : ℕ → Range) (U : ℕ → Tree g) (at_x : T j ≡ TreeNode g x a q U) (y c : ℕ) (p : ℕ → Range) (W : ℕ → Tree g) (at_y : T (suc j) ≡ TreeNode g y c p W) where
    thin-pair : (thin (T j) || thin (T (suc j))) ≡ (ltb a 2 || ltb c 2)
    thin-pair = rw (at_x, at_y, thin-node g x a q U, thin-node g y c p W)

    abbrev All : ℕ → Range
    All = Ranges q U a (r j) p W c

    abbrev Below : ℕ → Tree g
    Below = Children q U a (r j) p W c

    pub tree-even : (ltb a 2 || ltb c 2) ≡ false → mend_tree (suc g) j (TreeNode (suc g) n k r T) ≡ TreeNode (suc g) n k r T
    unfolding mend_tree
    tree-even t = rw (mend-even r T k 0 j j (omega arith) place (thin-pair ∙ t))

    module _ (t : (ltb a 2 || ltb c 2) ≡ true) where
      pub tree-one : (l : ℕ) → l ≡ a + suc c → l ≤ 4 → mend_tree (suc g) j (TreeNode (suc g) n k r T) ≡ TreeNode (suc g) n (k - 1) (closed r j) (closed (placed T j (TreeNode g x l All Below)) (suc j))
      unfolding mend_tree
      tree-one l e few =
          let z : k ≡ suc (k - 1) = omega arith in
          let f : parted (T j).number (T (suc j)).number (joined (T j).row (r j) (T (suc j)).row) ≡ whole (TreeNode g x l All Below) = rw (at_x, at_y, joined-row q U a (r j) p W c l e) (parted-one x y All Below l few) in
          let d = mend-one r T j (thin-pair ∙ t) (TreeNode g x l All Below) f (k - 1) 0 j (omega arith) (omega arith) in
          ap (λ (i : ℕ). record { number = n; row = mend_row j (T 0) (branches r T i 0) }) z ∙ rw d

      pub tree-two : (l : ℕ) → suc (suc (suc l)) ≡ a + suc c → 2 ≤ l
          → mend_tree (suc g) j (TreeNode (suc g) n k r T) ≡ TreeNode (suc g) n k (placed r j (All 2)) (placed (placed T j (TreeNode g x 2 All Below)) (suc j) (TreeNode g y l (λ i. All (3 + i)) (λ i. Below (3 + i))))
      unfolding mend_tree
      tree-two l e two =
          let f : parted (T j).number (T (suc j)).number (joined (T j).row (r j) (T (suc j)).row) ≡ parts (TreeNode g x 2 All Below) (All 2) (TreeNode g y l (λ i. All (3 + i)) (λ i. Below (3 + i)))
          = rw (at_x, at_y, joined-row q U a (r j) p W c (suc (suc (suc l))) e) (parted-two x y All Below (suc (suc (suc l))) l refl (omega arith)) in
          rw (mend-two r T j (thin-pair ∙ t) (TreeNode g x 2 All Below) (All 2) (TreeNode g y l (λ i. All (3 + i)) (λ i. Below (3 + i))) f k 0 j (omega arith) place)

-- The place of a BASE

module _ (r : ℕ → Range) (c : ℕ) where
  under-ge : (k i : ℕ) → i ≤ slot_under r c k i
  unfolding first_at
  under-ge zero i = omega arith
  under-ge (suc k) i = by-test (ltb (r i).base c) (λ e. let g = under-ge k (suc i) in rw e (omega arith)) (λ e. rw e (omega arith))

  pub under-le : (k i : ℕ) → slot_under r c k i ≤ i + k
  unfolding first_at
  under-le zero i = omega arith
  under-le (suc k) i = by-test (ltb (r i).base c) (λ e. let g = under-le k (suc i) in rw e (omega arith)) (λ e. rw e (omega arith))

module _ (k i : ℕ) where
  pub within-mid : i < k → i ≡ within k i
  unfolding within
  within-mid l = rw (lt-ltb i k l)

  pub within-last : k ≤ i → k - 1 ≡ within k i
  unfolding within
  within-last l = rw (le-ltb i k l)

  module _ (r : ℕ → Range) (c : ℕ) where
    pub found-mid : i < k → (q : Range) → q ≡ r i → eqb q.base c ≡ found_at r c k i
    unfolding found_at
    found-mid l q e = rw (lt-ltb i k l, e)

    pub found-last : k ≤ i → false ≡ found_at r c k i
    unfolding found_at
    found-last l = rw (le-ltb i k l)

    pub found_in : found_at r c k i ≡ true → i < k
    found_in t = by-dec (dec_lt i k) (λ l. l) (λ l. true-false (found_at r c k i) t (sym (found-last (omega arith))))

-- Out of the ranges of a leaf

take-branch : {A : Type 0} (r : ℕ → Range) (T : ℕ → A) (c k i s p : ℕ) → slot_under r c (suc k) i ≡ s → (s < i + suc k → p ≡ s) → (s ≡ i + suc k → p ≡ i + k)
    → take_branch c (branches r T (suc k) i) ≡ record { range = r p; left = branches (closed r p) (closed T (suc p)) k i }
unfolding take_branch branches first_at
take-branch r T c zero i s p e in-it last =
    by-test (ltb (r i).base c)
    (λ t. let d : s ≡ suc i = sym (rw t at e) in let x : p ≡ i = let y = last (omega arith) in omega arith in rw x)
    (λ t. let d : s ≡ i = sym (rw t at e) in let x : p ≡ i = let y = in-it (omega arith) in omega arith in rw x)
take-branch r T c (suc k) i s p e in-it last =
    by-test (ltb (r i).base c)
    (λ t. let d : slot_under r c (suc k) (suc i) ≡ s = rw t at e in
    let g = under-ge r c (suc k) (suc i) in
    let u = under-le r c (suc k) (suc i) in
    let x : i < p = after i k s p (omega arith) (omega arith) in-it last in
    let h = take-branch r T c k (suc i) s p d (λ l. in-it (omega arith)) (λ l. let y = last (omega arith) in omega arith) in
    rw t (taken-path (ap (λ (y : Taken (List (Branch _))). y.range) h)
    (ap₂ ◌∷◌ (branch-path (sym (closed-low r p i x)) (sym (closed-low T (suc p) (suc i) (omega arith)))) (ap (λ (y : Taken (List (Branch _))). y.left) h))))
    (λ t. let d : s ≡ i = sym (rw t at e) in
    let x : p ≡ i = let y = in-it (omega arith) in omega arith in
    rw t
    (taken-path refl (sym (branches-closed r T (suc k) i))
    ∙ ap (λ y. record { range = r y; left = branches (closed r y) (closed T (suc y)) (suc k) i }) (sym x)))
  where
    after : (i k s p : ℕ) → suc i ≤ s → s ≤ suc i + suc k → (s < i + suc (suc k) → p ≡ s) → (s ≡ i + suc (suc k) → p ≡ i + suc k) → i < p
    after i k s p lo hi a b = by-dec (dec_lt s (i + suc (suc k))) (λ l. let y = a l in omega arith) (λ l. let y = b (omega arith) in omega arith)

-- Out of a row above the leaves

module _ {A : Type 0} (g : Node A → Taken (Node A)) (c : ℕ) (r : ℕ → Range) (T : ℕ → Node A) where
  -- what is taken at place s, and what then stands there
  abbrev Out : ℕ → Range
  Out s = cond (eqb (r s).base c) (r s) (g (T s)).range

  abbrev In : ℕ → ℕ → Range
  In s = placed r s (cond (eqb (r s).base c) (g (T s)).range (r s))

  abbrev Less : ℕ → ℕ → Node A
  Less s = placed T s (g (T s)).left

  less-behind : (k i : ℕ) → branches r T k (suc i) ≡ branches (In i) (Less i) k (suc i)
  less-behind k i =
      branches-ext r (In i) T (Less i) k (suc i) (λ j u v. sym (placed-other r i (cond (eqb (r i).base c) (g (T i)).range (r i)) j (λ x. omega arith))) (λ j u v. sym (placed-other T i (g (T i)).left j (λ x. omega arith)))

  take-first : (k i : ℕ) → take_here g c (T i) (record { range = r i; child = T (suc i) }) (branches r T k (suc i)) ≡ record { range = Out i; left = mend_row zero (Less i i) (branches (In i) (Less i) (suc k) i) }
  unfolding take_here mend_row branches
  take-first k i =
      rw (placed-here T i (g (T i)).left, placed-here r i (cond (eqb (r i).base c) (g (T i)).range (r i)), placed-other T i (g (T i)).left (suc i) (λ x. omega arith), ← less-behind k i)
      (by-test (eqb (r i).base c) (λ t. rw t) (λ t. rw t))

  take-mid : (k i j s : ℕ) → slot_under r c (suc k) i ≡ s → s ≡ i + j → j ≤ k → take_row g c (T i) (branches r T (suc k) i) ≡ record { range = Out s; left = mend_row j (Less s i) (branches (In s) (Less s) (suc k) i) }
  unfolding take_row first_at branches mend_row before
  take-mid zero i j s e at l =
      by-test (ltb (r i).base c)
      (λ t. let d : s ≡ suc i = sym (rw t at e) in absurd (omega arith))
      (λ t. let d : s ≡ i = sym (rw t at e) in let x : j ≡ 0 = omega arith in
      rw (t, x) (take-first zero i ∙ ap (λ y. record { range = Out y; left = mend_row zero (Less y i) (branches (In y) (Less y) 1 i) }) (sym d)))
  take-mid (suc k) i zero s e at l =
      by-test (ltb (r i).base c)
      (λ t. let d : slot_under r c (suc k) (suc i) ≡ s = rw t at e in let u = under-ge r c (suc k) (suc i) in absurd (omega arith))
      (λ t. let d : s ≡ i = sym (rw t at e) in
      rw t (take-first (suc k) i ∙ ap (λ y. record { range = Out y; left = mend_row zero (Less y i) (branches (In y) (Less y) (suc (suc k)) i) }) (sym d)))
  take-mid (suc k) i (suc j) s e at l =
      by-test (ltb (r i).base c)
      (λ t. let d : slot_under r c (suc k) (suc i) ≡ s = rw t at e in
      let h = take-mid k (suc i) j s d (omega arith) (omega arith) in
      rw (t, h, placed-other r s (cond (eqb (r s).base c) (g (T s)).range (r s)) i (λ x. omega arith), placed-other T s (g (T s)).left i (λ x. omega arith)))
      (λ t. let d : s ≡ i = sym (rw t at e) in absurd (omega arith))

  take_last : (k i s : ℕ) → slot_under r c (suc k) i ≡ s → s ≡ i + suc k → take_row g c (T i) (branches r T (suc k) i) ≡ record { range = (g (T s)).range; left = mend_row k (Less s i) (branches r (Less s) (suc k) i) }
  unfolding take_row first_at branches mend_row before
  take_last zero i s e at =
      by-test (ltb (r i).base c)
      (λ t. let d : s ≡ suc i = sym (rw t at e) in rw (t, d, placed-here T (suc i) (g (T (suc i))).left, placed-other T (suc i) (g (T (suc i))).left i (λ x. omega arith)))
      (λ t. let d : s ≡ i = sym (rw t at e) in absurd (omega arith))
  take_last (suc k) i s e at =
      by-test (ltb (r i).base c)
      (λ t. let d : slot_under r c (suc k) (suc i) ≡ s = rw t at e in
      let h = take_last k (suc i) s d (omega arith) in
      rw (t, h, placed-other T s (g (T s)).left i (λ x. omega arith)))
      (λ t. let d : s ≡ i = sym (rw t at e) in absurd (omega arith))

-- The nodes on the way, and those beside it

module _ {A : Type 0} (f : Node A → List ℕ) (c : ℕ) (r : ℕ → Range) (T : ℕ → Node A) where
  way-mid : (k i s : ℕ) → slot_under r c (suc k) i ≡ s → s < i + suc k → way_beside f c (T i) (branches r T (suc k) i) ≡ (T (suc s)).number ∷ f (T s)
  unfolding way_beside first_at branches
  way-mid zero i s e l =
      by-test (ltb (r i).base c)
      (λ t. let d : s ≡ suc i = sym (rw t at e) in absurd (omega arith))
      (λ t. let d : s ≡ i = sym (rw t at e) in rw (t, d))
  way-mid (suc k) i s e l =
      by-test (ltb (r i).base c)
      (λ t. let d : slot_under r c (suc k) (suc i) ≡ s = rw t at e in rw (t, way-mid k (suc i) s d (omega arith)))
      (λ t. let d : s ≡ i = sym (rw t at e) in rw (t, d))

  way-last : (k i s : ℕ) → slot_under r c (suc k) i ≡ s → s ≡ i + suc k → way_beside f c (T i) (branches r T (suc k) i) ≡ (T (i + k)).number ∷ f (T s)
  unfolding way_beside first_at branches
  way-last zero i s e at =
      by-test (ltb (r i).base c)
      (λ t. let d : s ≡ suc i = sym (rw t at e) in let z : i + 0 ≡ i = omega arith in rw (t, d, z))
      (λ t. let d : s ≡ i = sym (rw t at e) in absurd (omega arith))
  way-last (suc k) i s e at =
      by-test (ltb (r i).base c)
      (λ t. let d : slot_under r c (suc k) (suc i) ≡ s = rw t at e in let z : i + suc k ≡ suc i + k = omega arith in rw (t, way-last k (suc i) s d (omega arith), z))
      (λ t. let d : s ≡ i = sym (rw t at e) in absurd (omega arith))

-- a number that does not stand in a list
not_first : (x : ℕ) (xs : List ℕ) (m : ℕ) → occ m (x ∷ xs) ≡ 0 → (m ≡ x → ⊥) × (occ m xs ≡ 0)
unfolding occ
not_first x xs m z = ((λ e. let y : cond {A = ℕ} (eqb x m) 1 0 ≡ 1 = rw (eq-eqb x m (sym e)) refl in omega arith), omega arith)

first-in : (x : ℕ) (xs : List ℕ) → 1 ≤ occ x (x ∷ xs)
unfolding occ
first-in x xs = let y : cond {A = ℕ} (eqb x x) 1 0 ≡ 1 = rw (eq-eqb x x refl) refl in omega arith

-- the topmost node is on the way
pub own-way : (c h : ℕ) (t : Tree (suc h)) → 1 ≤ occ t.number (removal_way c (suc h) t)
unfolding removal_way
own-way c zero t = first-in t.number []
own-way c (suc h) t = first-in t.number (way_beside (removal_way c (suc h)) c t.row.first t.row.rest)

-- A node of k ranges, and the place s of a BASE in it

module _ (h n k : ℕ) (r : ℕ → Range) (c : ℕ) (some : 1 ≤ k) where
  abbrev Slot : ℕ
  Slot = slot_under r c k 0

  abbrev At : ℕ
  At = within k Slot

  less_one : k ≡ suc (k - 1)
  less_one = omega arith

  slot-one : slot_under r c (suc (k - 1)) 0 ≡ Slot
  slot-one = ap (λ (x : ℕ). slot_under r c x 0) (sym less_one)

  slot-in : Slot ≤ k
  slot-in = let l = under-le r c k 0 in omega arith

  pub take-leaf : (T : ℕ → Tree 0) → take_at c 0 (TreeNode 0 n k r T) ≡ record { range = r At; left = TreeNode 0 n (k - 1) (closed r At) (closed T (suc At)) }
  unfolding take_at
  take-leaf T =
      let e = take-branch r T c (k - 1) 0 Slot At slot-one (λ l. sym (within-mid k Slot (omega arith))) (λ l. let v = within-last k Slot (omega arith) in omega arith) in
      let d = ap (λ (x : ℕ). take_branch c (branches r T x 0)) less_one ∙ e in
      rw (d, closed-low T (suc At) 0 (omega arith))

  module _ (T : ℕ → Tree (suc h)) where
    abbrev Found : Bool
    Found = found_at r c k Slot

    abbrev Got : Taken (Tree (suc h))
    Got = take_at c h (T Slot)

    pub take-node : take_at c (suc h) (TreeNode (suc h) n k r T) ≡ record { range = cond Found (r Slot) Got.range; left = mend_tree (suc h) At (TreeNode (suc h) n k (placed r Slot (cond Found Got.range (r Slot))) (placed T Slot Got.left)) }
    unfolding take_at mend_tree
    take-node =
        by-dec (dec_lt Slot k)
        (λ l. let e = take-mid (take_at c h) c r T (k - 1) 0 Slot Slot slot-one (omega arith) (omega arith) in
        let d = ap (λ (x : ℕ). take_row (take_at c h) c (T 0) (branches r T x 0)) less_one ∙ e in
        rw (d, ← less_one, ← within-mid k Slot l, ← found-mid k Slot r c l (r Slot) refl))
        (λ l. let e = take_last (take_at c h) c r T (k - 1) 0 Slot slot-one (let u = slot-in in omega arith) in
        let d = ap (λ (x : ℕ). take_row (take_at c h) c (T 0) (branches r T x 0)) less_one ∙ e in
        rw (d, ← less_one, ← within-last k Slot (omega arith), ← found-last k Slot r c (omega arith))
        (ap (λ (x : List (Branch (Tree (suc h)))). record { range = Got.range; left = record { number = n; row = mend_row (k - 1) (placed T Slot Got.left 0) x } })
        (branches-ext r (placed r Slot (r Slot)) (placed T Slot Got.left) (placed T Slot Got.left) k 0 (λ j u v. sym (placed-other r Slot (r Slot) j (λ x. omega arith))) (λ j u v. refl))))

    -- a node that is not on the way
    pub record Beside (m : ℕ) : Type 0 where
      pub off-node : m ≡ n → ⊥
      pub off-left : m ≡ (T At).number → ⊥
      pub off-right : m ≡ (T (suc At)).number → ⊥
      pub off-child : occ m (removal_way c (suc h) (T Slot)) ≡ 0

    pub beside : (m : ℕ) → occ m (removal_way c (suc (suc h)) (TreeNode (suc h) n k r T)) ≡ 0 → Beside m
    unfolding removal_way
    beside m z =
        let p = not_first n (way_beside (removal_way c (suc h)) c (T 0) (branches r T k 0)) m z in
        by-dec (dec_lt Slot k)
        (λ l. let e = ap (λ (x : ℕ). way_beside (removal_way c (suc h)) c (T 0) (branches r T x 0)) less_one ∙ way-mid (removal_way c (suc h)) c r T (k - 1) 0 Slot slot-one (omega arith) in
        let q = not_first (T (suc Slot)).number (removal_way c (suc h) (T Slot)) m (rw e at p.1) in
        record { off-node = p.0; off-left = rw (← within-mid k Slot l) (off-own m q.1); off-right = rw (← within-mid k Slot l) q.0; off-child = q.1 })
        (λ l. let e = ap (λ (x : ℕ). way_beside (removal_way c (suc h)) c (T 0) (branches r T x 0)) less_one ∙ way-last (removal_way c (suc h)) c r T (k - 1) 0 Slot slot-one (let u = slot-in in omega arith) in
        let q = not_first (T (0 + (k - 1))).number (removal_way c (suc h) (T Slot)) m (rw e at p.1) in
        let v = within-last k Slot (omega arith) in let x : 0 + (k - 1) ≡ At = omega arith in
        let u = slot-in in let y : suc At ≡ Slot = omega arith in
        record { off-node = p.0; off-left = rw x at q.0; off-right = rw y (off-own m q.1); off-child = q.1 })
      where
        off-own : (m : ℕ) → occ m (removal_way c (suc h) (T Slot)) ≡ 0 → m ≡ (T Slot).number → ⊥
        off-own m z e = let o = own-way c h (T Slot) in let d = ap (λ (x : ℕ). occ x (removal_way c (suc h) (T Slot))) e in omega arith
