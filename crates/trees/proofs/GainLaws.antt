-- Insertion into a tree by the place of the child, and the numbers that it gains.
use mathlib.Core.Path.{◌≡◌, refl, sym, ap, ◌∙◌}
use mathlib.Core.List.{List, [], ◌∷◌, ◌++◌}
use Prim.Native.Nat.{ℕ, zero, suc, ◌+◌, ◌≤◌}
use native.Mathlib.Omega.{arith}
use native.Mathlib.Decide.{dec_lt}
use lib.Dec.{ltb, eqb}
use lib.ListN.{length}
use borrow.Author.Tests.{le-leb, lt-leb}
use Rattle.words.proofs.Cases.{by-test, by-dec}
use Rattle.trees.specs.declared.Range.{Range}
use Rattle.trees.specs.Nodes.{no_range}
use Rattle.trees.specs.Trees.{Branch, Tree, Each, next, done, Shape, nodes, besides, branches}
use Rattle.trees.specs.Insertion.{Grown, whole, parts, cut, parted, insert_at, way_along}
use Rattle.trees.specs.Inner.Places.{first_at, placed, opened, slot_by, sum}
use Rattle.trees.specs.Inner.Standing.{grown_nodes}
use Rattle.trees.proofs.PlaceLaws.{opened_map, length-branches, branches-behind, branches-shift, slot_by-le, row-whole, row-parts, sum-ext, sum-placed, sum-opened, row-weight}
use Rattle.trees.proofs.StandingLaws.{TreeNode}

-- four ranges or fewer are one node, and more are two
module _ {A : Type 0} (n m : ℕ) (r : ℕ → Range) (T : ℕ → A) where
  pub parted-one : (k : ℕ) → k ≤ 4 → parted n m (record { first = T 0; rest = branches r T k 0 }) ≡ whole (record { number = n; row = record { first = T 0; rest = branches r T k 0 } })
  unfolding parted
  parted-one k l = rw (length-branches r T k 0, le-leb k 4 l)

  pub parted-two : (k l : ℕ) → k ≡ suc (suc (suc l)) → 5 ≤ k
      → parted n m (record { first = T 0; rest = branches r T k 0 }) ≡ parts (record { number = n; row = record { first = T 0; rest = branches r T 2 0 } }) (r 2) (record { number = m; row = record { first = T 3; rest = branches (λ j. r (3 + j)) (λ j. T (3 + j)) l 0 } })
  unfolding parted cut
  parted-two k l e h =
      rw (length-branches r T k 0, lt-leb k 4 (omega arith), e)
      (unfold branches in ap (λ (x : List (Branch A)). parts (record { number = n; row = record { first = T 0; rest = record { range = r 0; child = T 1 } ∷ record { range = r 1; child = T 2 } ∷ [] } }) (r 2) (record { number = m; row = record { first = T 3; rest = x } })) (branches-shift r T 3 l 0))

-- Insertion by the place of the child

module _ (f : ℕ → ℕ) (q : Range) (h n k : ℕ) (r : ℕ → Range) (T : ℕ → Tree h) where
  pub insert-whole : (a : Tree h) → k ≤ 4 → insert_at f q h (T (slot_by r q.base k 0)) ≡ whole a → insert_at f q (suc h) (TreeNode h n k r T) ≡ whole (TreeNode h n k r (placed T (slot_by r q.base k 0) a))
  unfolding insert_at
  insert-whole a few e = rw (row-whole (insert_at f q h) q.base r T k 0 a e) (parted-one n (f h) r (placed T (slot_by r q.base k 0) a) k few)

  abbrev Wider : ℕ → Tree h → Tree h → ℕ → Tree h
  Wider s a c = opened (placed T s a) (suc s) c

  pub insert-absorb : (a : Tree h) (s : Range) (c : Tree h) → k ≤ 3 → insert_at f q h (T (slot_by r q.base k 0)) ≡ parts a s c
      → insert_at f q (suc h) (TreeNode h n k r T) ≡ whole (TreeNode h n (suc k) (opened r (slot_by r q.base k 0) s) (Wider (slot_by r q.base k 0) a c))
  unfolding insert_at
  insert-absorb a s c few e =
      rw (row-parts (insert_at f q h) q.base r T k 0 a s c e) (parted-one n (f h) (opened r (slot_by r q.base k 0) s) (Wider (slot_by r q.base k 0) a c) (suc k) (omega arith))

  pub insert-halve : (a : Tree h) (s : Range) (c : Tree h) → k ≡ 4 → insert_at f q h (T (slot_by r q.base k 0)) ≡ parts a s c
      → insert_at f q (suc h) (TreeNode h n k r T) ≡ parts (TreeNode h n 2 (opened r (slot_by r q.base k 0) s) (Wider (slot_by r q.base k 0) a c)) (opened r (slot_by r q.base k 0) s 2) (TreeNode h (f h) 2 (λ j. opened r (slot_by r q.base k 0) s (3 + j)) (λ j. Wider (slot_by r q.base k 0) a c (3 + j)))
  unfolding insert_at
  insert-halve a s c four e =
      rw (row-parts (insert_at f q h) q.base r T k 0 a s c e)
      (ap (λ (x : ℕ). parted n (f h) (record { first = Wider (slot_by r q.base k 0) a c 0; rest = branches (opened r (slot_by r q.base k 0) s) (Wider (slot_by r q.base k 0) a c) (suc x) 0 })) four
      ∙ parted-two n (f h) (opened r (slot_by r q.base k 0) s) (Wider (slot_by r q.base k 0) a c) 5 2 refl (omega arith))

-- Weights

module _ (h : ℕ) (v : Tree h → ℕ) (T : ℕ → Tree h) (k i : ℕ) (in-it : i ≤ k) where
  placed-weight : (a : Tree h) → sum (suc k) (λ j. v (placed T i a j)) + v (T i) ≡ sum (suc k) (λ j. v (T j)) + v a
  placed-weight a =
      let e = sum-ext (suc k) (λ j. v (placed T i a j)) (placed (λ j. v (T j)) i (v a)) (λ j l. unfold placed in by-test (eqb j i) (λ t. rw t) (λ t. rw t)) in
      let p = sum-placed (suc k) (λ j. v (T j)) i (v a) (omega arith) in
      omega arith

  opened-weight : (a c : Tree h) → sum (suc (suc k)) (λ j. v (opened (placed T i a) (suc i) c j)) + v (T i) ≡ sum (suc k) (λ j. v (T j)) + (v a + v c)
  opened-weight a c =
      let e = sum-ext (suc (suc k)) (λ j. v (opened (placed T i a) (suc i) c j)) (opened (λ j. v (placed T i a j)) (suc i) (v c)) (λ j l. opened_map v (placed T i a) (suc i) c j) in
      let p = sum-opened (suc k) (λ j. v (placed T i a j)) (suc i) (v c) (omega arith) in
      let q = placed-weight a in
      omega arith

halves-weight : (v : ℕ → ℕ) → sum 3 v + sum 3 (λ j. v (3 + j)) ≡ sum 6 v
unfolding sum
halves-weight v = omega arith

-- w adds up over lists: occurrences of a number, or the length
module _ (w : List ℕ → ℕ) (nil : w [] ≡ 0) (adds : (xs ys : List ℕ) → w (xs ++ ys) ≡ w xs + w ys) where
  weigh-node : (h n k : ℕ) (r : ℕ → Range) (T : ℕ → Tree h) → w (nodes (suc h) (TreeNode h n k r T)) ≡ w (n ∷ []) + sum (suc k) (λ j. w (nodes h (T j)))
  unfolding nodes
  weigh-node h n k r T =
      let e = row-weight w nil adds (nodes h) r T k in
      let d = adds (n ∷ []) (nodes h (T 0) ++ besides (nodes h) (branches r T k 0)) in
      omega arith

  -- an insertion by place: the node gains what the child gains, and a number where it is parted
  module _ (f : ℕ → ℕ) (q : Range) (h n k : ℕ) (r : ℕ → Range) (T : ℕ → Tree h) where
    weigh-whole : (a : Tree h) → k ≤ 4 → insert_at f q h (T (slot_by r q.base k 0)) ≡ whole a
        → w (grown_nodes (suc h) (insert_at f q (suc h) (TreeNode h n k r T))) + w (nodes h (T (slot_by r q.base k 0))) ≡ w (nodes (suc h) (TreeNode h n k r T)) + w (grown_nodes h (insert_at f q h (T (slot_by r q.base k 0))))
    unfolding grown_nodes
    weigh-whole a few e =
        let l = slot_by-le r q.base k 0 in
        let x = weigh-node h n k r T in let y = weigh-node h n k r (placed T (slot_by r q.base k 0) a) in
        let p = placed-weight h (λ (t : Tree h). w (nodes h t)) T k (slot_by r q.base k 0) (omega arith) a in
        rw (insert-whole f q h n k r T a few e, e) (omega arith)

    weigh-absorb : (a : Tree h) (s : Range) (c : Tree h) → k ≤ 3 → insert_at f q h (T (slot_by r q.base k 0)) ≡ parts a s c
        → w (grown_nodes (suc h) (insert_at f q (suc h) (TreeNode h n k r T))) + w (nodes h (T (slot_by r q.base k 0))) ≡ w (nodes (suc h) (TreeNode h n k r T)) + w (grown_nodes h (insert_at f q h (T (slot_by r q.base k 0))))
    unfolding grown_nodes
    weigh-absorb a s c few e =
        let l = slot_by-le r q.base k 0 in
        let x = weigh-node h n k r T in let y = weigh-node h n (suc k) (opened r (slot_by r q.base k 0) s) (opened (placed T (slot_by r q.base k 0) a) (suc (slot_by r q.base k 0)) c) in
        let p = opened-weight h (λ (t : Tree h). w (nodes h t)) T k (slot_by r q.base k 0) (omega arith) a c in
        let g = adds (nodes h a) (nodes h c) in
        rw (insert-absorb f q h n k r T a s c few e, e) (omega arith)

    pub weigh-halve : (a : Tree h) (s : Range) (c : Tree h) → k ≡ 4 → insert_at f q h (T (slot_by r q.base k 0)) ≡ parts a s c
        → w (grown_nodes (suc h) (insert_at f q (suc h) (TreeNode h n k r T))) + w (nodes h (T (slot_by r q.base k 0))) ≡ w (nodes (suc h) (TreeNode h n k r T)) + w (grown_nodes h (insert_at f q h (T (slot_by r q.base k 0)))) + w (f h ∷ [])
    unfolding grown_nodes
    weigh-halve a s c four e =
        let l = slot_by-le r q.base k 0 in
        let R : ℕ → Range = opened r (slot_by r q.base k 0) s in
        let U : ℕ → Tree h = opened (placed T (slot_by r q.base k 0) a) (suc (slot_by r q.base k 0)) c in
        let x = weigh-node h n k r T in let y = weigh-node h n 2 R U in let z = weigh-node h (f h) 2 (λ j. R (3 + j)) (λ j. U (3 + j)) in
        let p = opened-weight h (λ (t : Tree h). w (nodes h t)) T k (slot_by r q.base k 0) (omega arith) a c in
        let v = halves-weight (λ j. w (nodes h (U j))) in let o = ap (λ (i : ℕ). sum (suc (suc i)) (λ j. w (nodes h (U j)))) four in
        let g = adds (nodes h a) (nodes h c) in
        let d = adds (nodes (suc h) (TreeNode h n 2 R U)) (nodes (suc h) (TreeNode h (f h) 2 (λ j. R (3 + j)) (λ j. U (3 + j)))) in
        rw (insert-halve f q h n k r T a s c four e, e) (omega arith)

    pub weigh-kid : (g : Grown (Tree h)) → k ≤ 4 → insert_at f q h (T (slot_by r q.base k 0)) ≡ g
        → w (nodes (suc h) (TreeNode h n k r T)) + w (grown_nodes h (insert_at f q h (T (slot_by r q.base k 0)))) ≤ w (grown_nodes (suc h) (insert_at f q (suc h) (TreeNode h n k r T))) + w (nodes h (T (slot_by r q.base k 0)))
    weigh-kid (whole a) few e = let x = weigh-whole a few e in omega arith
    weigh-kid (parts a s c) few e =
        by-dec (dec_lt k 4) (λ d. let x = weigh-absorb a s c (omega arith) e in omega arith) (λ d. let x = weigh-halve a s c (omega arith) e in omega arith)

-- What an insertion gains: the numbers that f gives for its lowest levels, for all of them where it makes two parts

pub record Gains (f : ℕ → ℕ) (h : ℕ) (t : Tree h) (g : Grown (Tree h)) : Type 0 where
  pub levels : ℕ
  pub weigh : (w : List ℕ → ℕ) → w [] ≡ 0 → ((xs ys : List ℕ) → w (xs ++ ys) ≡ w xs + w ys) → w (grown_nodes h g) ≡ w (nodes h t) + sum levels (λ j. w (f j ∷ []))
  pub full : (a : Tree h) (s : Range) (c : Tree h) → g ≡ parts a s c → levels ≡ h

module _ (f : ℕ → ℕ) (q : Range) (h n k : ℕ) (r : ℕ → Range) (T : ℕ → Tree h) (few : k ≤ 4) where
  gains-node : (g : Grown (Tree h)) → insert_at f q h (T (slot_by r q.base k 0)) ≡ g → Gains f h (T (slot_by r q.base k 0)) (insert_at f q h (T (slot_by r q.base k 0))) → Gains f (suc h) (TreeNode h n k r T) (insert_at f q (suc h) (TreeNode h n k r T))
  unfolding sum
  gains-node (whole a) e known = record {
    levels = known.levels;
    weigh = λ w nil adds. let x = weigh-whole w nil adds f q h n k r T a few e in let y = known.weigh w nil adds in omega arith;
    full = λ x s c d. let i = insert-whole f q h n k r T a few e in let z : ◌≡◌ {A = ℕ} 0 1 = cc in absurd (omega arith);
  }
  gains-node (parts a s c) e known =
      by-dec (dec_lt k 4)
      (λ l. record {
        levels = known.levels;
        weigh = λ w nil adds. let x = weigh-absorb w nil adds f q h n k r T a s c (omega arith) e in let y = known.weigh w nil adds in omega arith;
        full = λ x u y d. let i = insert-absorb f q h n k r T a s c (omega arith) e in let z : ◌≡◌ {A = ℕ} 0 1 = cc in absurd (omega arith);
      })
      (λ l. record {
        levels = suc h;
        weigh = λ w nil adds. let x = weigh-halve w nil adds f q h n k r T a s c (omega arith) e in let y = known.weigh w nil adds in let z = ap (λ (i : ℕ). sum i (λ j. w (f j ∷ []))) (known.full a s c e) in omega arith;
        full = λ x u y d. refl;
      })

-- a row by its places
pub range_at : {A : Type 0} → List (Branch A) → ℕ → Range
range_at [] j = no_range
range_at (x ∷ xs) zero = x.range
range_at (x ∷ xs) (suc j) = range_at xs j

pub child_at : {A : Type 0} → A → List (Branch A) → ℕ → A
child_at a bs zero = a
child_at a [] (suc j) = a
child_at a (x ∷ xs) (suc j) = child_at x.child xs j

by-places : {A : Type 0} (a : A) (bs : List (Branch A)) → bs ≡ branches (range_at bs) (child_at a bs) (length bs) 0
unfolding branches range_at child_at
by-places a [] = refl
by-places {A = A} a (x ∷ xs) =
    ap (λ (l : List (Branch A)). x ∷ l)
    (by-places x.child xs ∙ sym (branches-behind (range_at xs) (range_at (x ∷ xs)) (child_at x.child xs) (child_at a (x ∷ xs)) (length xs) 0 (λ j l. refl) (λ j l. refl)))

pub as-node : (h : ℕ) (t : Tree (suc h)) → t ≡ TreeNode h t.number (length t.row.rest) (range_at t.row.rest) (child_at t.row.first t.row.rest)
unfolding child_at
as-node h t = ap (λ (l : List (Branch (Tree h))). record { number = t.number; row = record { first = t.row.first; rest = l } }) (by-places t.row.first t.row.rest)

each-child : {A : Type 0} (P : A → Type 0) (a : A) (bs : List (Branch A)) → P a → Each P bs → (j : ℕ) → P (child_at a bs j)
unfolding child_at
each-child P a bs p q zero = p
each-child P a [] p done (suc j) = p
each-child P a (x ∷ xs) p (next c q) (suc j) = each-child P x.child xs c q j

pub insert-gains : (f : ℕ → ℕ) (q : Range) (h least : ℕ) (t : Tree h) → Shape h least t → Gains f h t (insert_at f q h t)
unfolding child_at
insert-gains f q zero least t s = unfold insert_at grown_nodes nodes sum in record { levels = 0; weigh = λ w nil adds. omega arith; full = λ a r c e. refl }
insert-gains f q (suc h) least t s =
    let R : ℕ → Range = range_at t.row.rest in let T : ℕ → Tree h = child_at t.row.first t.row.rest in
    let k : Tree h = T (slot_by R q.base (length t.row.rest) 0) in
    rw (as-node h t) (gains-node f q h t.number (length t.row.rest) R T s.few (insert_at f q h k) refl (insert-gains f q h 2 k (each-child (Shape h 2) t.row.first t.row.rest s.first s.others (slot_by R q.base (length t.row.rest) 0))))

-- the way through a row goes on in the child at the place of the BASE
pub way-row : {A : Type 0} (f : A → List ℕ) (c : ℕ) (r : ℕ → Range) (T : ℕ → A) (k i : ℕ) → way_along f c (T i) (branches r T k i) ≡ f (T (slot_by r c k i))
unfolding way_along branches first_at
way-row f c r T zero i = refl
way-row f c r T (suc k) i = by-test (ltb c (r i).base) (λ t. rw t) (λ t. rw t (way-row f c r T k (suc i)))

pub sum_ones : (k : ℕ) (f : ℕ → ℕ) → sum k (λ j. length (f j ∷ [])) ≡ k
unfolding sum
sum_ones zero f = refl
sum_ones (suc k) f = let e = sum_ones k f in omega arith
