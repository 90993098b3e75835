-- Removal from a tree is removal from the list of its ranges, keeps the shape, and takes no node.
use mathlib.Core.Path.{◌≡◌, refl, sym, ap, ap₂, ◌∙◌}
use mathlib.Core.Bool.{◌||◌}
use mathlib.Core.List.{List, [], ◌∷◌, ◌++◌, append_assoc, append-nil}
use Prim.Native.Nat.{ℕ, zero, suc, ◌+◌, ◌≤◌, ◌<◌}
use native.Mathlib.Omega.{arith}
use lib.Dec.{leb, ltb, eqb}
use lib.ListN.{length, take, drop, length-append, take-append-drop}
use borrow.Author.Tests.{ltb-true, ltb-false, eqb-true, eqb-false}
use Rattle.words.proofs.Cases.{by-test}
use Rattle.trees.specs.declared.Range.{Range}
use Rattle.trees.specs.Trees.{Branch, Row, Node, Tree, along, in_row, contents, besides, nodes, occ, Each, next, Fits, Shape, done}
use Rattle.trees.specs.Insertion.{Grown, whole, parts, spread, before, cut, parted}
use Rattle.trees.specs.Removal.{joined, thin, mended, Taken, take_branch, take_here, take_row, take_at}
use Rattle.trees.specs.Inner.Spans.{Between, in_grown}
use Rattle.trees.specs.Inner.Standing.{grown_nodes}
use Rattle.trees.specs.Inner.Taking.{take_list, Aims, at_base, at_last}
use Rattle.trees.proofs.RangeLaws.{Around, around}
use Rattle.trees.proofs.TakingLaws.{took-left, took-here, took-right, took-last, aims-left, aims-right}
use Rattle.trees.proofs.InsertionLaws.{along-append, spread-ranges, before-ranges, parted-ranges, each_append, parted-fits, spread-fits}
use Rattle.trees.proofs.PlaceLaws.{occ-append}
use Rattle.trees.proofs.LineLaws.{thin-yes, thin-no}
use Rattle.trees.proofs.StandingLaws.{hit}
use Rattle.trees.proofs.SizeLaws.{size-two}

-- Ranges

joined-ranges : {A : Type 0} (g : A → List Range) (v : Row A) (s : Range) (w : Row A) → in_row g (joined v s w) ≡ in_row g v ++ s ∷ in_row g w
unfolding in_row joined
joined-ranges g v s w =
    ap (λ (l : List Range). g v.first ++ l) (along-append g v.rest (record { range = s; child = w.first } ∷ w.rest))
    ∙ sym (append_assoc (g v.first) (along g v.rest) (along g (record { range = s; child = w.first } ∷ w.rest)))
    ∙ unfold along in refl

node-ranges : (h : ℕ) (z : Grown (Tree (suc h))) → in_grown (contents (suc h)) z ≡ in_grown (λ (n : Node (Tree h)). in_row (contents h) n.row) z
unfolding in_grown contents
node-ranges h (whole a) = refl
node-ranges h (parts a s c) = refl

joined-nodes : (h : ℕ) (x : Tree (suc h)) (s : Range) (y : Tree (suc h)) → in_row (contents h) (joined x.row s y.row) ≡ contents (suc h) x ++ s ∷ contents (suc h) y
unfolding contents
joined-nodes h x s y = joined-ranges (contents h) x.row s y.row

mended-ranges : (h : ℕ) (x : Tree (suc h)) (s : Range) (y : Tree (suc h)) (bs : List (Branch (Tree (suc h)))) → in_row (contents (suc h)) (mended x s y bs) ≡ contents (suc h) x ++ s ∷ (contents (suc h) y ++ along (contents (suc h)) bs)
unfolding mended
mended-ranges h x s y bs =
    by-test (thin x || thin y)
    (λ e. rw e (spread-ranges (contents (suc h)) (parted x.number y.number (joined x.row s y.row)) bs
    ∙ ap (λ (l : List Range). l ++ along (contents (suc h)) bs) (node-ranges h (parted x.number y.number (joined x.row s y.row)) ∙ parted-ranges (contents h) x.number y.number (joined x.row s y.row) ∙ joined-nodes h x s y)
    ∙ append_assoc (contents (suc h) x) (s ∷ contents (suc h) y) (along (contents (suc h)) bs)))
    (λ e. rw e (unfold in_row along in refl))

-- the same range is taken out of a tree and out of a list, and the same ranges are left
abbrev pub Follows : {A : Type 0} → (A → List Range) → Taken A → Taken (List Range) → Type 0
Follows g w v = (w.range ≡ v.range) × (g w.left ≡ v.left)

leaf-taken : (b : ℕ) (bs : List (Branch (Tree zero))) → Follows (along (contents zero)) (take_branch b bs) (take_list b (along (contents zero) bs))
unfolding take_branch take_list along contents
leaf-taken b [] = (refl, refl)
leaf-taken b (x ∷ []) = (refl, refl)
leaf-taken b (x ∷ y ∷ ys) =
    let k = leaf-taken b (y ∷ ys) in
    by-test (ltb x.range.base b) (λ e. rw e (k.0, ap (λ (l : List Range). x.range ∷ l) k.1)) (λ e. rw e (refl, refl))

alone : {A : Type 0} (g : A → List Range) (a : A) → in_row g (record { first = a; rest = [] }) ≡ g a
unfolding in_row along
alone g a = append-nil (g a)

module _ {A : Type 0} (b : ℕ) (g : Node A → List Range) (f : Node A → Taken (Node A)) (P : Node A → Type 0)
    (mends : (x : Node A) (s : Range) (y : Node A) (bs : List (Branch (Node A))) → in_row g (mended x s y bs) ≡ g x ++ s ∷ (g y ++ along g bs))
    (some : (c : Node A) → P c → 1 ≤ length (g c))
    (known : (c : Node A) (lo hi : ℕ) → P c → Between lo (g c) hi → Aims b (g c) → Follows g (f c) (take_list b (g c))) where
  here-taken : {lo hi : ℕ} (a : Node A) (x : Branch (Node A)) (xs : List (Branch (Node A))) → P a → Around lo (g a) x.range (g x.child ++ along g xs) hi → b ≤ x.range.base → Aims b (g a ++ x.range ∷ (g x.child ++ along g xs))
      → Follows (in_row g) (take_here f b a x xs) (take_list b (g a ++ x.range ∷ (g x.child ++ along g xs)))
  unfolding take_here
  here-taken {lo} {hi} a x xs p q l w =
      let ys : List Range = g x.child ++ along g xs in
      by-test (eqb x.range.base b)
      (λ e. let is : x.range.base ≡ b = eqb-true _ _ e in
      let m : Between lo (g a) b = rw is at q.left in
      let t = took-here b x.range ys lo (g a) q.left is in
      let k = known a lo b p m (at_last lo m (some a p)) in
      rw e (
        sym t.0,
        mends (f a).left (f a).range x.child xs
            ∙ ap₂ (λ (u : List Range) (r : Range). u ++ r ∷ ys) k.1 k.0
            ∙ sym (append_assoc (take_list b (g a)).left ((take_list b (g a)).range ∷ []) ys)
            ∙ ap (λ (u : List Range). u ++ ys) (sym (took-last b lo (g a) m (some a p)))
            ∙ sym t.1,
      ))
      (λ e. let n = eqb-false _ _ e in
      let d = aims-left b (g a) x.range ys q (lower-base x.range.base l n) w in
      let t = took-left b (g a) (x.range ∷ ys) d in
      let k = known a lo x.range.base p q.left (at_base d) in
      rw e (k.0 ∙ sym t.0, mends (f a).left x.range x.child xs ∙ ap (λ (u : List Range). u ++ x.range ∷ ys) k.1 ∙ sym t.1))
    where
      lower-base : (n : ℕ) → b ≤ n → (n ≡ b → ⊥) → b < n
      lower-base n h k = omega arith

  row-taken : (a : Node A) (bs : List (Branch (Node A))) (lo hi : ℕ) → P a → Each P bs → Between lo (g a ++ along g bs) hi → Aims b (g a ++ along g bs)
      → Follows (in_row g) (take_row f b a bs) (take_list b (g a ++ along g bs))
  unfolding take_row along
  row-taken a [] lo hi p q m w =
      let k = known a lo hi p (rw (append-nil (g a)) at m) (rw (append-nil (g a)) at w) in
      rw (append-nil (g a)) (k.0, alone g (f a).left ∙ k.1)
  row-taken a (x ∷ []) lo hi p (next c q) m w =
      let u = around lo (g a) x.range (g x.child ++ []) hi m in
      by-test (ltb x.range.base b)
      (λ e. let s : 1 ≤ length (g x.child ++ []) = rw (append-nil (g x.child)) (some x.child c) in
      let t = took-right b x.range (g x.child ++ []) lo (g a) u.left (ltb-true _ _ e) s in
      let d = aims-right b (g a) x.range (g x.child ++ []) u (ltb-true _ _ e) s w in
      let k = known x.child x.range.limit hi c (rw (append-nil (g x.child)) at u.right) (rw (append-nil (g x.child)) at d) in
      let v : take_list b (g x.child) ≡ take_list b (g x.child ++ []) = ap (take_list b) (sym (append-nil (g x.child))) in
      rw e (
        k.0 ∙ ap (λ (z : Taken (List Range)). z.range) v ∙ sym t.0,
        mends a x.range (f x.child).left []
            ∙ ap (λ (z : List Range). g a ++ x.range ∷ z) (append-nil (g (f x.child).left) ∙ k.1 ∙ ap (λ (z : Taken (List Range)). z.left) v)
            ∙ sym t.1,
      ))
      (λ e. rw e (here-taken a x [] p u (ltb-false _ _ e) w))
  row-taken a (x ∷ y ∷ ys) lo hi p (next c q) m w =
      let u = around lo (g a) x.range (g x.child ++ along g (y ∷ ys)) hi m in
      let known' = row-taken x.child (y ∷ ys) x.range.limit hi c q u.right in
      by-test (ltb x.range.base b)
      (λ e. let s : 1 ≤ length (g x.child ++ along g (y ∷ ys)) = let l = length-append (g x.child) (along g (y ∷ ys)) in let i = some x.child c in omega arith in
      let t = took-right b x.range (g x.child ++ along g (y ∷ ys)) lo (g a) u.left (ltb-true _ _ e) s in
      let k = known' (aims-right b (g a) x.range (g x.child ++ along g (y ∷ ys)) u (ltb-true _ _ e) s w) in
      rw e (
        k.0 ∙ sym t.0,
        before-ranges g a x.range (take_row f b x.child (y ∷ ys)).left ∙ ap (λ (z : List Range). g a ++ x.range ∷ z) k.1 ∙ sym t.1,
      ))
      (λ e. rw e (here-taken a x (y ∷ ys) p u (ltb-false _ _ e) w))

some-range : (h : ℕ) (t : Tree (suc h)) → Shape (suc h) 2 t → 1 ≤ length (contents (suc h) t)
unfolding nodes
some-range h t s = let k = size-two (suc h) t s in omega arith

-- what is taken out of a tree is what is taken out of the list of its ranges
pub take-contents : (b h least : ℕ) (t : Tree (suc h)) (lo hi : ℕ) → Shape (suc h) least t → Between lo (contents (suc h) t) hi → Aims b (contents (suc h) t)
    → Follows (contents (suc h)) (take_at b h t) (take_list b (contents (suc h) t))
unfolding take_at contents in_row
take-contents b zero least t lo hi s m w = leaf-taken b t.row.rest
take-contents b (suc h) least t lo hi s m w =
    row-taken b (contents (suc h)) (take_at b h) (Shape (suc h) 2) (mended-ranges h) (some-range h) (λ c l k. take-contents b h 2 c l k) t.row.first t.row.rest lo hi s.first s.others m w

-- Shape

-- two neighbours with a range each at least, mended
mended-fits : (h : ℕ) (x : Tree (suc h)) (s : Range) (y : Tree (suc h)) (bs : List (Branch (Tree (suc h)))) → Shape (suc h) 1 x → Shape (suc h) 1 y → Each (Shape (suc h) 2) bs → Fits (Shape (suc h) 2) (length bs) (suc (length bs)) (mended x s y bs)
unfolding mended thin joined
mended-fits h x s y bs p q e =
    by-test (thin x || thin y)
    (λ t. rw t (spread-fits (Shape (suc h) 2) (parted x.number y.number (joined x.row s y.row)) bs
    (parted-fits (Shape h 2) 2 x.number y.number (joined x.row s y.row)
    (let a = p.enough in let b = p.few in let c = q.enough in let d = q.few in let u = thin-yes (length x.row.rest) (length y.row.rest) p.few q.few t in
    let l = length-append x.row.rest (record { range = s; child = y.row.first } ∷ y.row.rest) in
    record { enough = omega arith; few = omega arith; first = p.first; others = each_append p.others (next q.first q.others) })) e))
    (λ t. let o = thin-no (length x.row.rest) (length y.row.rest) t in
    rw t (record { enough = omega arith; few = omega arith; first = record { enough = o.0; few = p.few; first = p.first; others = p.others }; others = next (record { enough = o.1; few = q.few; first = q.first; others = q.others }) e }))

leaf-fits : {A : Type 0} (P : A → Type 0) (b : ℕ) (x : Branch A) (xs : List (Branch A)) → Each P (x ∷ xs) → Each P (take_branch b (x ∷ xs)).left × (length (take_branch b (x ∷ xs)).left ≡ length xs)
unfolding take_branch
leaf-fits P b x [] q = (done, refl)
leaf-fits P b x (y ∷ ys) (next p q) =
    let k = leaf-fits P b y ys q in
    by-test (ltb x.range.base b) (λ e. rw e (next p k.0, ap suc k.1)) (λ e. rw e (q, refl))

-- a child that loses a range has one at least left
module _ {A : Type 0} (b : ℕ) (f : Node A → Taken (Node A)) (P Q : Node A → Type 0)
    (weaker : (c : Node A) → P c → Q c)
    (mends : (x : Node A) (s : Range) (y : Node A) (bs : List (Branch (Node A))) → Q x → Q y → Each P bs → Fits P (length bs) (suc (length bs)) (mended x s y bs))
    (known : (c : Node A) → P c → Q (f c).left) where
  here-fits : (a : Node A) (x : Branch (Node A)) (xs : List (Branch (Node A))) → P a → P x.child → Each P xs → Fits P (length xs) (suc (length xs)) (take_here f b a x xs).left
  unfolding take_here
  here-fits a x xs p c q =
      by-test (eqb x.range.base b)
      (λ e. rw e (mends (f a).left (f a).range x.child xs (known a p) (weaker x.child c) q))
      (λ e. rw e (mends (f a).left x.range x.child xs (known a p) (weaker x.child c) q))

  row_fits : (a : Node A) (x : Branch (Node A)) (xs : List (Branch (Node A))) → P a → P x.child → Each P xs → Fits P (length xs) (suc (length xs)) (take_row f b a (x ∷ xs)).left
  unfolding take_row before
  row_fits a x [] p c q =
      by-test (ltb x.range.base b) (λ e. rw e (mends a x.range (f x.child).left [] (weaker a p) (known x.child c) q)) (λ e. rw e (here-fits a x [] p c q))
  row_fits a x (y ∷ ys) p c (next u q) =
      let k = row_fits x.child y ys c u q in let v = k.enough in let w = k.few in
      by-test (ltb x.range.base b)
      (λ e. rw e (record { enough = omega arith; few = omega arith; first = p; others = next k.first k.others }))
      (λ e. rw e (here-fits a x (y ∷ ys) p c (next u q)))

pub weaker-shape : (h : ℕ) (t : Tree h) → Shape h 2 t → Shape h 1 t
weaker-shape zero t s = tt
weaker-shape (suc h) t s = let k = s.enough in record { enough = omega arith; few = s.few; first = s.first; others = s.others }

leaf-shape : (b least : ℕ) (a : Tree zero) (bs : List (Branch (Tree zero))) → suc least ≤ length bs → length bs ≤ 4 → Each (Shape zero 2) bs → Fits (Shape zero 2) least 4 (record { first = a; rest = (take_branch b bs).left })
leaf-shape b least a [] e f q = absurd (omega arith)
leaf-shape b least a (x ∷ xs) e f q = let k = leaf-fits (Shape zero 2) b x xs q in let l = k.1 in record { enough = omega arith; few = omega arith; first = tt; others = k.0 }

row-shape : (b h least : ℕ) → ((c : Tree (suc h)) → Shape (suc h) 2 c → Shape (suc h) 1 (take_at b h c).left) → (a : Tree (suc h)) (bs : List (Branch (Tree (suc h)))) → suc least ≤ length bs → length bs ≤ 4 → Shape (suc h) 2 a → Each (Shape (suc h) 2) bs
    → Fits (Shape (suc h) 2) least 4 (take_row (take_at b h) b a bs).left
row-shape b h least known a [] e f p q = absurd (omega arith)
row-shape b h least known a (x ∷ xs) e f p (next c q) =
    let k = row_fits b (take_at b h) (Shape (suc h) 2) (Shape (suc h) 1) (weaker-shape (suc h)) (mended-fits h) known a x xs p c q in let v = k.enough in let w = k.few in
    record { enough = omega arith; few = omega arith; first = k.first; others = k.others }

-- the topmost node has one range less at most
pub take-shape : (b h least : ℕ) (t : Tree (suc h)) → Shape (suc h) (suc least) t → Shape (suc h) least (take_at b h t).left
unfolding take_at
take-shape b zero least t s = leaf-shape b least t.row.first t.row.rest s.enough s.few s.others
take-shape b (suc h) least t s = row-shape b h least (λ c q. take-shape b h 1 c q) t.row.first t.row.rest s.enough s.few s.first s.others

-- Numbers of nodes

module _ (m : ℕ) where
  -- how often m stands in the children of a row
  row_occ : (h : ℕ) → Row (Tree h) → ℕ
  row_occ h w = occ m (nodes h w.first) + occ m (besides (nodes h) w.rest)

  node-occ : (h : ℕ) (t : Tree (suc h)) → occ m (nodes (suc h) t) ≡ hit t.number m + row_occ h t.row
  unfolding row_occ nodes occ hit
  node-occ h t = let e = occ-append m (nodes h t.row.first) (besides (nodes h) t.row.rest) in omega arith

  next-occ : (h : ℕ) (x : Branch (Tree h)) (xs : List (Branch (Tree h))) → occ m (besides (nodes h) (x ∷ xs)) ≡ occ m (nodes h x.child) + occ m (besides (nodes h) xs)
  unfolding besides
  next-occ h x xs = occ-append m (nodes h x.child) (besides (nodes h) xs)

  both-occ : (h : ℕ) (xs ys : List (Branch (Tree h))) → occ m (besides (nodes h) (xs ++ ys)) ≡ occ m (besides (nodes h) xs) + occ m (besides (nodes h) ys)
  both-occ h [] ys = unfold besides occ in omega arith
  both-occ h (x ∷ xs) ys = let k = both-occ h xs ys in let a = next-occ h x (xs ++ ys) in let c = next-occ h x xs in omega arith

  joined-occ : (h : ℕ) (v : Row (Tree h)) (s : Range) (w : Row (Tree h)) → row_occ h (joined v s w) ≡ row_occ h v + row_occ h w
  unfolding row_occ joined
  joined-occ h v s w =
      let a = both-occ h v.rest (record { range = s; child = w.first } ∷ w.rest) in
      let c = next-occ h (record { range = s; child = w.first }) w.rest in
      omega arith

  before-occ : (h : ℕ) (a : Tree h) (s : Range) (w : Row (Tree h)) → row_occ h (before a s w) ≡ occ m (nodes h a) + row_occ h w
  unfolding row_occ before
  before-occ h a s w = let c = next-occ h (record { range = s; child = w.first }) w.rest in omega arith

  spread-occ : (h : ℕ) (z : Grown (Tree h)) (bs : List (Branch (Tree h))) → row_occ h (spread z bs) ≡ occ m (grown_nodes h z) + occ m (besides (nodes h) bs)
  unfolding row_occ spread grown_nodes
  spread-occ h (whole t) bs = refl
  spread-occ h (parts a s c) bs = let d = next-occ h (record { range = s; child = c }) bs in let e = occ-append m (nodes h a) (nodes h c) in omega arith

  cut-occ : (h n k : ℕ) (a : Tree h) (ys xs : List (Branch (Tree h))) → occ m (grown_nodes (suc h) (cut n k a ys xs)) ≤ hit n m + hit k m + row_occ h (record { first = a; rest = ys ++ xs })
  unfolding row_occ cut grown_nodes
  cut-occ h n k a ys [] =
      let d = node-occ h (record { number = n; row = record { first = a; rest = ys } }) in let e = both-occ h ys [] in omega arith
  cut-occ h n k a ys (x ∷ xs) =
      let c : Tree (suc h) = record { number = n; row = record { first = a; rest = ys } } in
      let d : Tree (suc h) = record { number = k; row = record { first = x.child; rest = xs } } in
      let u = node-occ h c in let v = node-occ h d in let w = occ-append m (nodes (suc h) c) (nodes (suc h) d) in
      let e = both-occ h ys (x ∷ xs) in let f = next-occ h x xs in
      omega arith

  -- a row that is parted over two nodes has no further number
  parted-occ : (h n k : ℕ) (w : Row (Tree h)) → occ m (grown_nodes (suc h) (parted n k w)) ≤ hit n m + hit k m + row_occ h w
  unfolding parted
  parted-occ h n k w =
      by-test (leb (length w.rest) 4)
      (λ e. rw e (unfold grown_nodes in let d = node-occ h (record { number = n; row = w }) in omega arith))
      (λ e. rw e (let d = cut-occ h n k w.first (take 2 w.rest) (drop 2 w.rest) in rw (take-append-drop 2 w.rest) at d))

  mended-occ : (h : ℕ) (x : Tree (suc h)) (s : Range) (y : Tree (suc h)) (bs : List (Branch (Tree (suc h)))) → row_occ (suc h) (mended x s y bs) ≤ occ m (nodes (suc h) x) + occ m (nodes (suc h) y) + occ m (besides (nodes (suc h)) bs)
  unfolding mended
  mended-occ h x s y bs =
      let a = node-occ h x in let c = node-occ h y in
      let d = joined-occ h x.row s y.row in
      let e = parted-occ h x.number y.number (joined x.row s y.row) in
      let f = spread-occ (suc h) (parted x.number y.number (joined x.row s y.row)) bs in
      by-test (thin x || thin y) (λ t. rw t (omega arith)) (λ t. rw t (unfold row_occ in let k = next-occ (suc h) (record { range = s; child = y }) bs in omega arith))

  module _ (b h : ℕ) (f : Tree (suc h) → Taken (Tree (suc h))) (known : (c : Tree (suc h)) → occ m (nodes (suc h) (f c).left) ≤ occ m (nodes (suc h) c)) where
    here-occ : (a : Tree (suc h)) (x : Branch (Tree (suc h))) (xs : List (Branch (Tree (suc h)))) → row_occ (suc h) (take_here f b a x xs).left ≤ occ m (nodes (suc h) a) + occ m (besides (nodes (suc h)) (x ∷ xs))
    unfolding take_here
    here-occ a x xs =
        let k = known a in let l = next-occ (suc h) x xs in
        by-test (eqb x.range.base b)
        (λ e. rw e (let d = mended-occ h (f a).left (f a).range x.child xs in omega arith))
        (λ e. rw e (let d = mended-occ h (f a).left x.range x.child xs in omega arith))

    row-occ : (a : Tree (suc h)) (bs : List (Branch (Tree (suc h)))) → row_occ (suc h) (take_row f b a bs).left ≤ occ m (nodes (suc h) a) + occ m (besides (nodes (suc h)) bs)
    unfolding take_row
    row-occ a [] = let k = known a in unfold row_occ in omega arith
    row-occ a (x ∷ []) =
        let k = known x.child in let l = next-occ (suc h) x [] in let d = mended-occ h a x.range (f x.child).left [] in
        by-test (ltb x.range.base b) (λ e. rw e (omega arith)) (λ e. rw e (here-occ a x []))
    row-occ a (x ∷ y ∷ ys) =
        let k = row-occ x.child (y ∷ ys) in let l = next-occ (suc h) x (y ∷ ys) in
        let d = before-occ (suc h) a x.range (take_row f b x.child (y ∷ ys)).left in
        by-test (ltb x.range.base b) (λ e. rw e (omega arith)) (λ e. rw e (here-occ a x (y ∷ ys)))

  leaf-occ : (bs : List (Branch (Tree zero))) → occ m (besides (nodes zero) bs) ≡ 0
  unfolding besides nodes occ
  leaf-occ [] = refl
  leaf-occ (x ∷ xs) = leaf-occ xs

  -- no number comes in
  pub take-occ : (b h : ℕ) (t : Tree (suc h)) → occ m (nodes (suc h) (take_at b h t).left) ≤ occ m (nodes (suc h) t)
  unfolding take_at row_occ
  take-occ b zero t =
      let u = node-occ zero t in
      let v = node-occ zero (take_at b zero t).left in
      let c = leaf-occ t.row.rest in let d = leaf-occ (take_branch b t.row.rest).left in
      omega arith
  take-occ b (suc h) t =
      let u = node-occ (suc h) t in
      let v = node-occ (suc h) (take_at b (suc h) t).left in
      let k = row-occ b h (take_at b h) (λ c. take-occ b h c) t.row.first t.row.rest in
      omega arith
