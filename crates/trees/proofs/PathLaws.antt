-- The path of a page ends at the node that has its range.
use mathlib.Core.Path.{◌≡◌, refl, ◌∙◌}
use mathlib.Core.Bool.{true, false, ◌||◌}
use mathlib.Core.List.{List, [], ◌∷◌, ◌++◌, append-nil}
use mathlib.Core.Logic.{◌⊎◌, inl, inr}
use Prim.Native.Nat.{ℕ, zero, suc, ◌≤◌, ◌<◌}
use native.Mathlib.Omega.{arith}
use borrow.Author.Tests.{le-leb, lt-leb, lt-ltb, le-ltb}
use Rattle.words.proofs.Cases.{by-test, true-false}
use Rattle.trees.specs.declared.Range.{Range}
use Rattle.trees.specs.Ranges.{covers, held}
use Rattle.trees.specs.Trees.{Branch, Tree, along, in_row, contents, path_along, path_length}
use Rattle.trees.specs.Inner.Spans.{Between}
use Rattle.trees.specs.Statements.{InBranch, this-range, later-range, InChild, this-child, later-child, StandsAt, PathLeadsThere}
use Rattle.trees.proofs.RangeLaws.{Around, between_le, around, page-in}
use Rattle.trees.proofs.ListLaws.{lawful-valid-tree}

-- Along a row: the page lies where the row does, and the path goes to it
module _ {A : Type 0} (g : A → List Range) (p : ℕ) where
  abbrev row_of : A → List (Branch A) → List Range
  row_of a bs = g a ++ along g bs

  module _ (a : A) (x : Branch A) (xs : List (Branch A)) (lo hi : ℕ) (m : Between lo (row_of a (x ∷ xs)) hi) where
    at_first : Around lo (g a) x.range (row_of x.child xs) hi
    unfolding along
    at_first = around lo (g a) x.range (row_of x.child xs) hi m

    -- behind the first range
    behind-first : (x.range.limit ≤ p) × (p < hi) → (lo ≤ p) × (p < hi)
    behind-first k = let q = at_first in let l = between_le q.left in let s = q.some in let i = k.0 in (omega arith, k.1)

  path-behind : (f : A → ℕ) (a : A) (x : Branch A) (xs : List (Branch A)) → x.range.limit ≤ p → path_along f p a (x ∷ xs) ≡ path_along f p x.child xs
  unfolding path_along
  path-behind f a x xs l = rw (le-ltb p x.range.limit l)

  -- one of its ranges has the page
  branch-within : (a : A) (bs : List (Branch A)) (lo hi : ℕ) → Between lo (row_of a bs) hi → InBranch p bs → (lo ≤ p) × (p < hi)
  branch-within a [] lo hi m b = elim b [ ]
  branch-within a (x ∷ xs) lo hi m (this-range c) =
      let q = at_first a x xs lo hi m in let l = between_le q.left in let r = between_le q.right in
      let k = page-in x.range p c in let i = k.0 in let j = k.1 in
      (omega arith, omega arith)
  branch-within a (x ∷ xs) lo hi m (later-range c) = behind-first a x xs lo hi m (branch-within x.child xs x.range.limit hi (at_first a x xs lo hi m).right c)

  branch-path : (f : A → ℕ) (a : A) (bs : List (Branch A)) (lo hi : ℕ) → Between lo (row_of a bs) hi → InBranch p bs → path_along f p a bs ≡ 0
  unfolding path_along
  branch-path f a [] lo hi m b = elim b [ ]
  branch-path f a (x ∷ xs) lo hi m (this-range c) = let k = page-in x.range p c in rw (lt-ltb p x.range.limit k.1, le-leb x.range.base p k.0)
  branch-path f a (x ∷ xs) lo hi m (later-range c) =
      let r = (at_first a x xs lo hi m).right in
      path-behind f a x xs (branch-within x.child xs x.range.limit hi r c).0 ∙ branch-path f x.child xs x.range.limit hi r c

  -- one of its children has it
  module _ (P : A → Type 0) (known : (c : A) (lo hi : ℕ) → Between lo (g c) hi → P c → (lo ≤ p) × (p < hi)) where
    child-within : (a : A) (bs : List (Branch A)) (lo hi : ℕ) → Between lo (row_of a bs) hi → P a ⊎ InChild P bs → (lo ≤ p) × (p < hi)
    unfolding along
    child-within a [] lo hi m (inl c) = known a lo hi (rw (append-nil (g a)) at m) c
    child-within a [] lo hi m (inr c) = elim c [ ]
    child-within a (x ∷ xs) lo hi m (inl c) =
        let q = at_first a x xs lo hi m in let s = q.some in let r = between_le q.right in
        let k = known a lo x.range.base q.left c in let i = k.1 in
        (k.0, omega arith)
    child-within a (x ∷ xs) lo hi m (inr (this-child c)) = behind-first a x xs lo hi m (child-within x.child xs x.range.limit hi (at_first a x xs lo hi m).right (inl c))
    child-within a (x ∷ xs) lo hi m (inr (later-child c)) = behind-first a x xs lo hi m (child-within x.child xs x.range.limit hi (at_first a x xs lo hi m).right (inr c))

    module _ (f : A → ℕ) (d : ℕ) (goes : (c : A) (lo hi : ℕ) → Between lo (g c) hi → P c → f c ≡ d) where
      later : (a : A) (x : Branch A) (xs : List (Branch A)) (lo hi : ℕ) → Between lo (row_of a (x ∷ xs)) hi → P x.child ⊎ InChild P xs → path_along f p x.child xs ≡ d → path_along f p a (x ∷ xs) ≡ d
      later a x xs lo hi m c e = path-behind f a x xs (child-within x.child xs x.range.limit hi (at_first a x xs lo hi m).right c).0 ∙ e

      child-path : (a : A) (bs : List (Branch A)) (lo hi : ℕ) → Between lo (row_of a bs) hi → P a ⊎ InChild P bs → path_along f p a bs ≡ d
      unfolding along path_along
      child-path a [] lo hi m (inl c) = goes a lo hi (rw (append-nil (g a)) at m) c
      child-path a [] lo hi m (inr c) = elim c [ ]
      child-path a (x ∷ xs) lo hi m (inl c) =
          let q = at_first a x xs lo hi m in let s = q.some in let k = known a lo x.range.base q.left c in let i = k.1 in
          rw (lt-ltb p x.range.limit (omega arith), lt-leb x.range.base p i) (goes a lo x.range.base q.left c)
      child-path a (x ∷ xs) lo hi m (inr (this-child c)) = later a x xs lo hi m (inl c) (child-path x.child xs x.range.limit hi (at_first a x xs lo hi m).right (inl c))
      child-path a (x ∷ xs) lo hi m (inr (later-child c)) = later a x xs lo hi m (inr c) (child-path x.child xs x.range.limit hi (at_first a x xs lo hi m).right (inr c))

-- In a tree

stands-within : (p h : ℕ) (t : Tree h) (d lo hi : ℕ) → Between lo (contents h t) hi → StandsAt p h t d → (lo ≤ p) × (p < hi)
unfolding contents in_row
stands-within p zero t d lo hi m s = elim s [ ]
stands-within p (suc h) t zero lo hi m s = elim s [ ]
stands-within p (suc h) t (suc zero) lo hi m s = branch-within (contents h) p t.row.first t.row.rest lo hi m s
stands-within p (suc h) t (suc (suc d)) lo hi m s = child-within (contents h) p (λ (c : Tree h). StandsAt p h c (suc d)) (λ c l k. stands-within p h c (suc d) l k) t.row.first t.row.rest lo hi m s

stands-path : (p h : ℕ) (t : Tree h) (d lo hi : ℕ) → Between lo (contents h t) hi → StandsAt p h t d → path_length p h t ≡ d
unfolding contents in_row path_length
stands-path p zero t d lo hi m s = elim s [ ]
stands-path p (suc h) t zero lo hi m s = elim s [ ]
stands-path p (suc h) t (suc zero) lo hi m s = let k = branch-path (contents h) p (path_length p h) t.row.first t.row.rest lo hi m s in omega arith
stands-path p (suc h) t (suc (suc d)) lo hi m s =
    let k = child-path (contents h) p (λ (c : Tree h). StandsAt p h c (suc d)) (λ c l u. stands-within p h c (suc d) l u) (path_length p h) (suc d) (λ c l u. stands-path p h c (suc d) l u) t.row.first t.row.rest lo hi m s in
    omega arith

-- Where a range has the page, it stands somewhere

child-some : {A : Type 0} (P : A → Type 0) (Q : A → ℕ → Type 0) → ((c : A) → P c → (d : ℕ) × Q c d) → (bs : List (Branch A)) → InChild P bs → (d : ℕ) × InChild (λ (c : A). Q c d) bs
child-some P Q known [] c = elim c [ ]
child-some P Q known (x ∷ xs) (this-child c) = let k = known x.child c in (k.0, this-child k.1)
child-some P Q known (x ∷ xs) (later-child c) = let k = child-some P Q known xs c in (k.0, later-child k.1)

held-append : (p : ℕ) (xs ys : List Range) → held (xs ++ ys) p ≡ true → (held xs p ≡ true) ⊎ (held ys p ≡ true)
unfolding held
held-append p [] ys e = inr e
held-append p (x ∷ xs) ys e = by-test (covers x p) (λ t. inl (rw t)) (λ t. go (held-append p xs ys (rw t at e)) t)
  where
    go : (held xs p ≡ true) ⊎ (held ys p ≡ true) → covers x p ≡ false → ((covers x p || held xs p) ≡ true) ⊎ (held ys p ≡ true)
    go (inl h) t = inl (rw (t, h))
    go (inr h) t = inr h

-- in one of these ranges, or in a child behind one
row-some : {A : Type 0} (g : A → List Range) (p : ℕ) (bs : List (Branch A)) → held (along g bs) p ≡ true → InBranch p bs ⊎ InChild (λ (c : A). held (g c) p ≡ true) bs
unfolding along held
row-some g p [] e = true-false false e refl
row-some {A = A} g p (x ∷ xs) e = by-test (covers x.range p) (λ t. inl (this-range t)) (λ t. go (held-append p (g x.child) (along g xs) (rw t at e)) (λ h. row-some g p xs h))
  where
    later : InBranch p xs ⊎ InChild (λ (c : A). held (g c) p ≡ true) xs → InBranch p (x ∷ xs) ⊎ InChild (λ (c : A). held (g c) p ≡ true) (x ∷ xs)
    later (inl h) = inl (later-range h)
    later (inr h) = inr (later-child h)

    go : (held (g x.child) p ≡ true) ⊎ (held (along g xs) p ≡ true) → (held (along g xs) p ≡ true → InBranch p xs ⊎ InChild (λ (c : A). held (g c) p ≡ true) xs) → InBranch p (x ∷ xs) ⊎ InChild (λ (c : A). held (g c) p ≡ true) (x ∷ xs)
    go (inl h) known = inr (this-child h)
    go (inr h) known = later (known h)

stands-some : (p h : ℕ) (t : Tree h) → held (contents h t) p ≡ true → (d : ℕ) × StandsAt p h t (suc d)
unfolding contents in_row
stands-some p zero t e = true-false false (unfold held in e) refl
stands-some p (suc h) t e = go (held-append p (contents h t.row.first) (along (contents h) t.row.rest) e) (λ c k. stands-some p h c k)
  where
    deeper : ((c : Tree h) → held (contents h c) p ≡ true → (d : ℕ) × StandsAt p h c (suc d)) → InBranch p t.row.rest ⊎ InChild (λ (c : Tree h). held (contents h c) p ≡ true) t.row.rest → (d : ℕ) × StandsAt p (suc h) t (suc d)
    deeper known (inl b) = (zero, b)
    deeper known (inr c) = let k = child-some (λ (x : Tree h). held (contents h x) p ≡ true) (λ (x : Tree h) d. StandsAt p h x (suc d)) known t.row.rest c in (suc k.0, inr k.1)

    go : (held (contents h t.row.first) p ≡ true) ⊎ (held (along (contents h) t.row.rest) p ≡ true) → ((c : Tree h) → held (contents h c) p ≡ true → (d : ℕ) × StandsAt p h c (suc d)) → (d : ℕ) × StandsAt p (suc h) t (suc d)
    go (inl k) known = let x = known t.row.first k in (suc x.0, inl x.1)
    go (inr k) known = deeper known (row-some (contents h) p t.row.rest k)

pub path-leads-there : PathLeadsThere
unfolding PathLeadsThere
path-leads-there t l p =
    let m = (lawful-valid-tree t l).between in (
      λ d s. stands-path p t.height t.tree d 0 1024 m s,
      λ e. let x = stands-some p t.height t.tree e in rw (stands-path p t.height t.tree (suc x.0) 0 1024 m x.1) x.1,
    )
