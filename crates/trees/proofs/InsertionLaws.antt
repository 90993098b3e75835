-- Insertion into a tree is insertion into the list of its ranges, and keeps the shape.
use mathlib.Core.Path.{◌≡◌, refl, sym, ap, ◌∙◌}
use mathlib.Core.List.{List, [], ◌∷◌, ◌++◌, append_assoc, append-nil}
use Prim.Native.Nat.{ℕ, zero, suc, ◌≤◌, ◌<◌}
use native.Mathlib.Omega.{arith}
use lib.Dec.{leb, ltb}
use lib.ListN.{length, take, drop, length-take, length-drop, take-append-drop}
use borrow.Author.Tests.{ltb-true, ltb-false, leb-true, leb-false}
use Rattle.words.proofs.Cases.{by-test}
use Rattle.trees.specs.declared.Range.{Range}
use Rattle.trees.specs.Ranges.{insert_list}
use Rattle.trees.specs.Trees.{Branch, Row, Node, Tree, along, in_row, contents, Each, next, Fits, Shape, Rooted, done}
use Rattle.trees.specs.Insertion.{Grown, whole, parts, spread, before, cut, parted, insert_row, insert_at, topped, taken_number, insert_tree}
use Rattle.trees.specs.Inner.Spans.{Between, in_grown}
use Rattle.trees.proofs.RangeLaws.{around, insert-left, insert-right}

-- Ranges

pub along-append : {A : Type 0} (g : A → List Range) (xs ys : List (Branch A)) → along g (xs ++ ys) ≡ along g xs ++ along g ys
unfolding along
along-append g [] ys = refl
along-append g (x ∷ xs) ys = ap (λ (l : List Range). x.range ∷ l) (ap (λ (l : List Range). g x.child ++ l) (along-append g xs ys) ∙ sym (append_assoc (g x.child) (along g xs) (along g ys)))

pub spread-ranges : {A : Type 0} (g : A → List Range) (x : Grown A) (bs : List (Branch A)) → in_row g (spread x bs) ≡ in_grown g x ++ along g bs
unfolding in_row spread in_grown along
spread-ranges g (whole a) bs = refl
spread-ranges g (parts a s c) bs = sym (append_assoc (g a) (s ∷ g c) (along g bs))

pub before-ranges : {A : Type 0} (g : A → List Range) (a : A) (s : Range) (w : Row A) → in_row g (before a s w) ≡ g a ++ s ∷ in_row g w
unfolding in_row before along
before-ranges g a s w = refl

-- the ranges of a row that is parted are those of the row
module _ {A : Type 0} (g : A → List Range) where
  abbrev of_node : Node A → List Range
  of_node x = in_row g x.row

  cut-ranges : (n m : ℕ) (a : A) (ys xs : List (Branch A)) → in_grown of_node (cut n m a ys xs) ≡ g a ++ along g (ys ++ xs)
  unfolding in_row in_grown cut along
  cut-ranges n m a ys [] = rw (append-nil ys)
  cut-ranges n m a ys (x ∷ xs) = append_assoc (g a) (along g ys) (x.range ∷ (g x.child ++ along g xs)) ∙ ap (λ (l : List Range). g a ++ l) (sym (along-append g ys (x ∷ xs)))

  pub parted-ranges : (n m : ℕ) (w : Row A) → in_grown of_node (parted n m w) ≡ in_row g w
  unfolding parted in_grown in_row
  parted-ranges n m w =
      by-test (leb (length w.rest) 4) (λ e. rw e)
      (λ e. rw e (cut-ranges n m w.first (take 2 w.rest) (drop 2 w.rest) ∙ ap (λ (l : List (Branch A)). g w.first ++ along g l) (take-append-drop 2 w.rest)))

module _ {A : Type 0} (f : A → Grown A) (g : A → List Range) (r : Range) (known : (c : A) (lo hi : ℕ) → Between lo (g c) hi → in_grown g (f c) ≡ insert_list r (g c)) where
  row-insert : (a : A) (bs : List (Branch A)) (lo hi : ℕ) → Between lo (g a ++ along g bs) hi → in_row g (insert_row f r.base a bs) ≡ insert_list r (g a ++ along g bs)
  unfolding along insert_row before
  row-insert a [] lo hi m =
      spread-ranges g (f a) [] ∙ append-nil (in_grown g (f a)) ∙ known a lo hi (rw (append-nil (g a)) at m) ∙ ap (insert_list r) (sym (append-nil (g a)))
  row-insert a (x ∷ xs) lo hi m =
      let q = around lo (g a) x.range (g x.child ++ along g xs) hi m in
      by-test (ltb r.base x.range.base)
      (λ e. rw e (spread-ranges g (f a) (x ∷ xs) ∙ ap (λ (l : List Range). l ++ along g (x ∷ xs)) (known a lo x.range.base q.left) ∙ sym (insert-left r (g a) x.range (g x.child ++ along g xs) (ltb-true _ _ e))))
      (λ e. rw e (before-ranges g a x.range (insert_row f r.base x.child xs) ∙ ap (λ (l : List Range). g a ++ x.range ∷ l) (row-insert x.child xs x.range.limit hi q.right) ∙ sym (insert-right r (g a) x.range (g x.child ++ along g xs) q.left (ltb-false _ _ e))))

node-insert : (f : ℕ → ℕ) (r : Range) (h : ℕ) (t : Tree (suc h)) (lo hi : ℕ) → ((c : Tree h) (l k : ℕ) → Between l (contents h c) k → in_grown (contents h) (insert_at f r h c) ≡ insert_list r (contents h c)) → Between lo (in_row (contents h) t.row) hi
    → in_row (contents h) (insert_row (insert_at f r h) r.base t.row.first t.row.rest) ≡ insert_list r (in_row (contents h) t.row)
unfolding in_row
node-insert f r h t lo hi known m = row-insert (insert_at f r h) (contents h) r known t.row.first t.row.rest lo hi m

pub insert-ranges : (f : ℕ → ℕ) (r : Range) (h : ℕ) (t : Tree h) (lo hi : ℕ) → Between lo (contents h t) hi → in_grown (contents h) (insert_at f r h t) ≡ insert_list r (contents h t)
unfolding insert_at contents
insert-ranges f r zero t lo hi m = unfold in_grown insert_list in refl
insert-ranges f r (suc h) t lo hi m =
    parted-ranges (contents h) t.number (f h) (insert_row (insert_at f r h) r.base t.row.first t.row.rest)
    ∙ node-insert f r h t lo hi (λ c l k. insert-ranges f r h c l k) m

topped-ranges : (f : ℕ → ℕ) (h : ℕ) (x : Grown (Tree h)) → contents (topped f h x).height (topped f h x).tree ≡ in_grown (contents h) x
unfolding topped contents in_row in_grown along
topped-ranges f h (whole t) = refl
topped-ranges f h (parts a s c) = ap (λ (l : List Range). contents h a ++ s ∷ l) (append-nil (contents h c))

-- the ranges after an insertion are those before it, with r in its place
pub insert-contents : (r : Range) (t : Rooted) (lo hi : ℕ) → Between lo (contents t.height t.tree) hi → contents (insert_tree r t).height (insert_tree r t).tree ≡ insert_list r (contents t.height t.tree)
unfolding insert_tree
insert-contents r t lo hi m = topped-ranges (taken_number t) t.height (insert_at (taken_number t) r t.height t.tree) ∙ insert-ranges (taken_number t) r t.height t.tree lo hi m

-- Shape

-- what stayed whole is as P says, parts are as Q says
abbrev pub Within : {A : Type 0} → (A → Type 0) → (A → Type 0) → Grown A → Type 0
Within P Q (whole a) = P a
Within P Q (parts a s c) = Q a × Q c

pub each_append : {A : Type 0} {P : A → Type 0} {xs ys : List (Branch A)} → Each P xs → Each P ys → Each P (xs ++ ys)
each_append done q = q
each_append (next p ps) q = next p (each_append ps q)

each_take : {A : Type 0} {P : A → Type 0} (k : ℕ) (xs : List (Branch A)) → Each P xs → Each P (take k xs)
each_take zero xs q = done
each_take (suc k) [] done = done
each_take (suc k) (x ∷ xs) (next p ps) = next p (each_take k xs ps)

each-drop : {A : Type 0} {P : A → Type 0} (k : ℕ) (xs : List (Branch A)) → Each P xs → Each P (drop k xs)
each-drop zero xs q = q
each-drop (suc k) [] done = done
each-drop (suc k) (x ∷ xs) (next p ps) = each-drop k xs ps

abbrev NodeIn : {A : Type 0} → (A → Type 0) → ℕ → Node A → Type 0
NodeIn P least x = Fits P least 4 x.row

module _ {A : Type 0} (P : A → Type 0) (least : ℕ) where
  cut_fits : (n m : ℕ) (a : A) (ys xs : List (Branch A)) → P a → Each P ys → Each P xs → length ys ≡ 2 → 3 ≤ length xs → length xs ≤ 5 → Within (NodeIn P least) (NodeIn P 2) (cut n m a ys xs)
  unfolding cut
  cut_fits n m a ys [] p q s l u v = absurd (omega arith)
  cut_fits n m a ys (x ∷ xs) p q (next c s) l u v =
      (record { enough = omega arith; few = omega arith; first = p; others = q }, record { enough = omega arith; few = omega arith; first = c; others = s })

  -- a row of five to seven ranges is parted into nodes that fit
  pub parted-fits : (n m : ℕ) (w : Row A) → Fits P least 7 w → Within (NodeIn P least) (NodeIn P 2) (parted n m w)
  unfolding parted
  parted-fits n m w q =
      by-test (leb (length w.rest) 4)
      (λ e. let k : length w.rest ≤ 4 = leb-true _ _ e in rw e (record { enough = q.enough; few = k; first = q.first; others = q.others }))
      (λ e. let k : 4 < length w.rest = leb-false _ _ e in let c = q.few in
      let d = length-take 2 w.rest in let g = length-drop 2 w.rest in
      rw e (cut_fits n m w.first (take 2 w.rest) (drop 2 w.rest) q.first (each_take 2 w.rest q.others) (each-drop 2 w.rest q.others) (omega arith) (omega arith) (omega arith)))

pub spread-fits : {A : Type 0} (P : A → Type 0) (x : Grown A) (bs : List (Branch A)) → Within P P x → Each P bs → Fits P (length bs) (suc (length bs)) (spread x bs)
unfolding spread
spread-fits P (whole a) bs p q = record { enough = omega arith; few = omega arith; first = p; others = q }
spread-fits P (parts a s c) bs p q = record { enough = omega arith; few = omega arith; first = p.0; others = next p.1 q }

module _ {A : Type 0} (P : A → Type 0) (f : A → Grown A) (b : ℕ) (known : (c : A) → P c → Within P P (f c)) where
  row-insert-fits : (a : A) (bs : List (Branch A)) → P a → Each P bs → Fits P (length bs) (suc (length bs)) (insert_row f b a bs)
  unfolding insert_row before
  row-insert-fits a [] p q = spread-fits P (f a) [] (known a p) done
  row-insert-fits a (x ∷ xs) p (next c q) =
      by-test (ltb b x.range.base) (λ e. rw e (spread-fits P (f a) (x ∷ xs) (known a p) (next c q)))
      (λ e. let k = row-insert-fits x.child xs c q in let l = k.enough in let u = k.few in
      rw e (record { enough = omega arith; few = omega arith; first = p; others = next k.first k.others }))

pub insert-fits : (f : ℕ → ℕ) (r : Range) (h least : ℕ) (t : Tree h) → Shape h least t → Within (Shape h least) (Shape h 2) (insert_at f r h t)
unfolding insert_at
insert-fits f r zero least t s = (tt, tt)
insert-fits f r (suc h) least t s =
    let k = row-insert-fits (Shape h 2) (insert_at f r h) r.base (λ c p. insert-fits f r h 2 c p) t.row.first t.row.rest s.first s.others in
    let a = s.enough in let b = s.few in let l = k.enough in let u = k.few in
    parted-fits (Shape h 2) least t.number (f h) (insert_row (insert_at f r h) r.base t.row.first t.row.rest)
    (record { enough = omega arith; few = omega arith; first = k.first; others = k.others })

topped-fits : (f : ℕ → ℕ) (h : ℕ) (x : Grown (Tree h)) → Within (Shape h 1) (Shape h 2) x → Shape (topped f h x).height 1 (topped f h x).tree
unfolding topped
topped-fits f h (whole t) q = q
topped-fits f h (parts a s c) q = record { enough = omega arith; few = omega arith; first = q.0; others = next q.1 done }

-- insertion keeps the shape: at least two ranges except in the root, at most four
pub insert-shape : (r : Range) (t : Rooted) → Shape t.height 1 t.tree → Shape (insert_tree r t).height 1 (insert_tree r t).tree
unfolding insert_tree
insert-shape r t s = topped-fits (taken_number t) t.height (insert_at (taken_number t) r t.height t.tree) (insert-fits (taken_number t) r t.height 1 t.tree s)
