-- How many ranges and nodes a tree has: at most 128 ranges, so that there is always a node to take.
use mathlib.Core.Path.{◌≡◌, refl, ap}
use mathlib.Core.Bool.{Bool, false, cond}
use mathlib.Core.List.{List, [], ◌∷◌}
use Prim.Native.Nat.{ℕ, zero, suc, ◌+◌, ◌*◌, ◌≤◌, ◌<◌}
use native.Mathlib.Omega.{arith}
use lib.Dec.{eqb}
use lib.ListN.{length, length-append}
use borrow.Author.Tests.{eqb-true}
use Rattle.words.proofs.Cases.{by-test}
use Rattle.trees.specs.declared.Range.{Range}
use Rattle.trees.specs.Ranges.{insert_list}
use Rattle.trees.specs.Nodes.{count_in, range_in, child_in}
use Rattle.trees.specs.Trees.{Branch, Tree, along, in_row, contents, besides, nodes, Each, next, Shape, branches, tree_at, occ, done}
use Rattle.trees.specs.Insertion.{Grown, whole, parts, insert_at, passing}
use Rattle.trees.specs.Inner.Spans.{Between, none, one, Proper, none_yet, and_one, in_grown}
use Rattle.trees.specs.Inner.Places.{sum}
use Rattle.trees.specs.Inner.Standing.{Stands, grown_nodes}
use Rattle.trees.proofs.RangeLaws.{is-proper}
use Rattle.trees.proofs.PlaceLaws.{length-branches, sum-ext}
use Rattle.trees.proofs.PassingLaws.{passing-enough}
use Rattle.trees.proofs.InsertionLaws.{Within, insert-ranges, insert-fits}

-- Shape

each-branches : {A : Type 0} (P : A → Type 0) (r : ℕ → Range) (T : ℕ → A) (k i : ℕ) → ((j : ℕ) → i < j → j ≤ i + k → P (T j)) → Each P (branches r T k i)
unfolding branches
each-branches P r T zero i f = done
each-branches P r T (suc k) i f = next (f (suc i) (omega arith) (omega arith)) (each-branches P r T k (suc i) (λ j lo hi. f j (omega arith) (omega arith)))

-- a tree that stands has the shape
pub stands-shape : (b : List ℕ) (h least n : ℕ) → Stands b h least n → Shape h least (tree_at b h n)
unfolding tree_at
stands-shape b zero least n s = tt
stands-shape b (suc h) least n s =
    let l = length-branches (range_in b n) (λ j. tree_at b h (child_in b n j)) (count_in b n) 0 in
    let e = s.enough in let f = s.few in
    record {
      enough = omega arith;
      few = omega arith;
      first = stands-shape b h 2 (child_in b n 0) (s.below 0 (omega arith));
      others = each-branches (Shape h 2) (range_in b n) (λ j. tree_at b h (child_in b n j)) (count_in b n) 0 (λ j lo hi. stands-shape b h 2 (child_in b n j) (s.below j (omega arith)));
    }

-- two ranges for each node
module _ {A : Type 0} (P : A → Type 0) (g : A → List ℕ) (c : A → List Range) (known : (a : A) → P a → 2 * length (g a) ≤ length (c a)) where
  each-size : (bs : List (Branch A)) → Each P bs → 2 * length (besides g bs) + length bs ≤ length (along c bs)
  unfolding besides along
  each-size [] done = omega arith
  each-size (x ∷ xs) (next p q) =
      let a = known x.child p in let b = each-size xs q in
      let e = length-append (g x.child) (besides g xs) in let f = length-append (c x.child) (along c xs) in
      omega arith

node-size : (h : ℕ) (t : Tree (suc h)) → Shape h 2 t.row.first → Each (Shape h 2) t.row.rest → ((a : Tree h) → Shape h 2 a → 2 * length (nodes h a) ≤ length (contents h a)) → 2 * length (nodes (suc h) t) + length t.row.rest ≤ length (contents (suc h) t) + 2
unfolding nodes contents in_row
node-size h t p q known =
    let a = known t.row.first p in
    let b = each-size (Shape h 2) (nodes h) (contents h) known t.row.rest q in
    let e = length-append (nodes h t.row.first) (besides (nodes h) t.row.rest) in
    let f = length-append (contents h t.row.first) (along (contents h) t.row.rest) in
    omega arith

pub size-two : (h : ℕ) (t : Tree h) → Shape h 2 t → 2 * length (nodes h t) ≤ length (contents h t)
size-two zero t s = unfold nodes contents in omega arith
size-two (suc h) t s = let e = s.enough in let x = node-size h t s.first s.others (size-two h) in omega arith

pub size-one : (h : ℕ) (t : Tree h) → Shape h 1 t → 2 * length (nodes h t) ≤ length (contents h t) + 1
size-one zero t s = unfold nodes contents in omega arith
size-one (suc h) t s = let e = s.enough in let x = node-size h t s.first s.others (size-two h) in omega arith

-- Ranges

pub between-length : {lo : ℕ} {xs : List Range} {hi : ℕ} → Between lo xs hi → Proper xs → 8 * length xs + lo ≤ hi
between-length (none a) none_yet = omega arith
between-length (one {r = r} a b m) (and_one e p) = let q = (is-proper r e).pages in let h = between-length m p in omega arith

-- proper ranges end at page 1,024
pub between-top : {lo : ℕ} {xs : List Range} {hi : ℕ} → lo ≤ 1024 → Between lo xs hi → Proper xs → Between lo xs 1024
between-top h (none a) none_yet = none h
between-top h (one {r = r} a b m) (and_one e p) = one a b (between-top (is-proper r e).top m p)

-- Unused nodes

sum-add : (n : ℕ) (f g : ℕ → ℕ) → sum n (λ m. f m + g m) ≡ sum n f + sum n g
unfolding sum
sum-add zero f g = refl
sum-add (suc n) f g = let h = sum-add n f g in omega arith

sum-hit : (n x : ℕ) → (sum n (λ m. cond (eqb x m) 1 0) ≤ 1) × (n ≤ x → sum n (λ m. cond (eqb x m) 1 0) ≡ 0)
unfolding sum
sum-hit zero x = (omega arith, λ l. refl)
sum-hit (suc n) x =
    let h = sum-hit n x in
    by-test (eqb x n)
    (λ t. let e : x ≡ n = eqb-true _ _ t in let z = h.1 (omega arith) in rw t (omega arith, λ l. absurd (omega arith)))
    (λ t. let a = h.0 in rw t (omega arith, λ l. let z = h.1 (omega arith) in omega arith))

sum-zero : (k : ℕ) → sum k (λ m. 0) ≤ 0
unfolding sum
sum-zero zero = omega arith
sum-zero (suc k) = let h = sum-zero k in omega arith

sum-occ : (n : ℕ) (ns : List ℕ) → sum n (λ m. occ m ns) ≤ length ns
unfolding occ
sum-occ n [] = sum-zero n
sum-occ n (x ∷ xs) = let a = sum-occ n xs in let b = (sum-hit n x).0 in let e = sum-add n (λ m. cond (eqb x m) 1 0) (λ m. occ m xs) in omega arith

-- where each of the 64 numbers passes or is among ns
pub free-enough : (p : ℕ → Bool) (ns : List ℕ) → ((m : ℕ) → m < 64 → p m ≡ false → 1 ≤ occ m ns) → 64 ≤ length (passing 64 0 p) + length ns
free-enough p ns h =
    let a = passing-enough 64 0 p (λ m. occ m ns) (λ m l u. h m (omega arith)) in
    let e = sum-ext 64 (λ j. occ (0 + j) ns) (λ m. occ m ns) (λ j l. let z : 0 + j ≡ j = omega arith in ap (λ (x : ℕ). occ x ns) z) in
    let d = sum-occ 64 ns in
    omega arith

-- After an insertion

module _ (f : ℕ → ℕ) (r : Range) (h : ℕ) (t : Tree h) (hi : ℕ) (shape : Shape h 1 t) (between : Between 0 (contents h t) hi) (few : length (insert_list r (contents h t)) ≤ 128) where
  grown-small : (g : Grown (Tree h)) → Within (Shape h 1) (Shape h 2) g → in_grown (contents h) g ≡ insert_list r (contents h t) → (length (grown_nodes h g) ≤ 64) × ((a : Tree h) (s : Range) (c : Tree h) → g ≡ parts a s c → length (grown_nodes h g) ≤ 63)
  unfolding in_grown grown_nodes
  grown-small (whole a) w e = let x = size-one h a w in let l = ap length e in (omega arith, λ b s c d. let z : ◌≡◌ {A = ℕ} 0 1 = cc in absurd (omega arith))
  grown-small (parts a s c) w e =
      let x = size-two h a w.0 in let y = size-two h c w.1 in let l = ap length e in
      let m = length-append (contents h a) (s ∷ contents h c) in let n = length-append (nodes h a) (nodes h c) in
      (omega arith, λ b q d z. omega arith)

  grown-is : (length (grown_nodes h (insert_at f r h t)) ≤ 64) × ((a : Tree h) (s : Range) (c : Tree h) → insert_at f r h t ≡ parts a s c → length (grown_nodes h (insert_at f r h t)) ≤ 63)
  grown-is = grown-small (insert_at f r h t) (insert-fits f r h 1 t shape) (insert-ranges f r h t 0 hi between)

  pub insert-small : length (grown_nodes h (insert_at f r h t)) ≤ 64
  insert-small = grown-is.0

  -- and there is a node for a new root
  pub insert-parts : (a : Tree h) (s : Range) (c : Tree h) → insert_at f r h t ≡ parts a s c → length (grown_nodes h (insert_at f r h t)) ≤ 63
  insert-parts = grown-is.1
