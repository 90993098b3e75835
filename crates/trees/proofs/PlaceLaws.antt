-- Rows by place: an insertion into a row as one into its places, and sums over them.
use mathlib.Core.Path.{◌≡◌, refl, sym, ap, ap₂, ◌∙◌}
use mathlib.Core.Bool.{Bool, true, false}
use mathlib.Core.List.{List, [], ◌∷◌, ◌++◌}
use Prim.Native.Nat.{ℕ, zero, suc, ◌+◌, ◌-◌, ◌≤◌, ◌<◌}
use native.Mathlib.Omega.{arith}
use native.Mathlib.Decide.{dec_lt}
use lib.Dec.{ltb, eqb}
use lib.ListN.{length}
use borrow.Author.Tests.{lt-ltb, le-ltb, eq-eqb, ne_eqb}
use Rattle.words.proofs.Cases.{by-test, by-dec}
use Rattle.trees.specs.declared.Range.{Range}
use Rattle.trees.specs.Trees.{Branch, Row, besides, branches, occ}
use Rattle.trees.specs.Insertion.{Grown, whole, parts, spread, before, insert_row}
use Rattle.trees.specs.Inner.Places.{FirstPlace, first_at, placed, opened, slot_by, sum}

-- Places

module _ {A : Type 0} (T : ℕ → A) (s : ℕ) (a : A) where
  pub placed-here : placed T s a s ≡ a
  unfolding placed
  placed-here = rw (eq-eqb s s refl)

  pub placed-other : (j : ℕ) → (j ≡ s → ⊥) → placed T s a j ≡ T j
  unfolding placed
  placed-other j n = rw (ne_eqb j s n)

  pub opened-low : (j : ℕ) → j < s → opened T s a j ≡ T j
  unfolding opened
  opened-low j h = rw (lt-ltb j s h)

  pub opened-here : opened T s a s ≡ a
  unfolding opened
  opened-here = rw (le-ltb s s (omega arith), eq-eqb s s refl)

  opened-high : (j : ℕ) → s < j → opened T s a j ≡ T (j - 1)
  unfolding opened
  opened-high j h = rw (le-ltb j s (omega arith), ne_eqb j s (λ e. omega arith))

  pub opened-next : (j : ℕ) → s ≤ j → opened T s a (suc j) ≡ T j
  opened-next j h = let e : suc j - 1 ≡ j = omega arith in opened-high (suc j) (omega arith) ∙ rw e

pub opened_map : {A B : Type 0} (f : A → B) (T : ℕ → A) (s : ℕ) (a : A) (j : ℕ) → f (opened T s a j) ≡ opened (λ i. f (T i)) s (f a) j
unfolding opened
opened_map f T s a j = by-test (ltb j s) (λ e. rw e) (λ e. by-test (eqb j s) (λ d. rw (e, d)) (λ d. rw (e, d)))

pub length-branches : {A : Type 0} (r : ℕ → Range) (T : ℕ → A) (k i : ℕ) → length (branches r T k i) ≡ k
unfolding branches
length-branches r T zero i = refl
length-branches r T (suc k) i = ap suc (length-branches r T k (suc i))

pub branch-path : {A : Type 0} {r q : Range} {a c : A} → r ≡ q → a ≡ c → ◌≡◌ {A = Branch A} (record { range = r; child = a }) (record { range = q; child = c })
branch-path e d i = record { range = e i; child = d i }

pub branches-ext : {A : Type 0} (r q : ℕ → Range) (T U : ℕ → A) (k i : ℕ) → ((j : ℕ) → i ≤ j → j < i + k → r j ≡ q j) → ((j : ℕ) → i < j → j ≤ i + k → T j ≡ U j) → branches r T k i ≡ branches q U k i
unfolding branches
branches-ext r q T U zero i e d = refl
branches-ext r q T U (suc k) i e d =
    ap₂ ◌∷◌ (branch-path (e i (omega arith) (omega arith)) (d (suc i) (omega arith) (omega arith)))
    (branches-ext r q T U k (suc i) (λ j lo hi. e j (omega arith) (omega arith)) (λ j lo hi. d j (omega arith) (omega arith)))

-- the same branches one place further on
pub branches-behind : {A : Type 0} (r q : ℕ → Range) (T U : ℕ → A) (k i : ℕ) → ((j : ℕ) → i ≤ j → q (suc j) ≡ r j) → ((j : ℕ) → i < j → U (suc j) ≡ T j) → branches q U k (suc i) ≡ branches r T k i
unfolding branches
branches-behind r q T U zero i e d = refl
branches-behind r q T U (suc k) i e d =
    ap₂ ◌∷◌ (branch-path (e i (omega arith)) (d (suc i) (omega arith))) (branches-behind r q T U k (suc i) (λ j lo. e j (omega arith)) (λ j lo. d j (omega arith)))

pub branches-shift : {A : Type 0} (r : ℕ → Range) (T : ℕ → A) (s k i : ℕ) → branches r T k (s + i) ≡ branches (λ j. r (s + j)) (λ j. T (s + j)) k i
unfolding branches
branches-shift r T s zero i = refl
branches-shift r T s (suc k) i =
    let e : suc (s + i) ≡ s + suc i = omega arith in
    ap₂ ◌∷◌ (branch-path refl (ap T e)) (ap (branches r T k) e ∙ branches-shift r T s k (suc i))

slot_by-ge : (r : ℕ → Range) (b k i : ℕ) → i ≤ slot_by r b k i
unfolding first_at
slot_by-ge r b zero i = omega arith
slot_by-ge r b (suc k) i = by-test (ltb b (r i).base) (λ e. rw e (omega arith)) (λ e. let g = slot_by-ge r b k (suc i) in rw e (omega arith))

pub slot_by-le : (r : ℕ → Range) (b k i : ℕ) → slot_by r b k i ≤ i + k
unfolding first_at
slot_by-le r b zero i = omega arith
slot_by-le r b (suc k) i = by-test (ltb b (r i).base) (λ e. rw e (omega arith)) (λ e. let g = slot_by-le r b k (suc i) in rw e (omega arith))

pub row-path : {A : Type 0} {a c : A} {xs ys : List (Branch A)} → a ≡ c → xs ≡ ys → ◌≡◌ {A = Row A} (record { first = a; rest = xs }) (record { first = c; rest = ys })
row-path e d i = record { first = e i; rest = d i }

-- An insertion into the row of k ranges from place i on

module _ {A : Type 0} (g : A → Grown A) (b : ℕ) (r : ℕ → Range) (T : ℕ → A) where
  -- with the child at place s replaced, and with a range and a child behind it
  abbrev Whole : (k i : ℕ) → A → ℕ → Row A
  Whole k i a s = record { first = placed T s a i; rest = branches r (placed T s a) k i }

  abbrev Parts : (k i : ℕ) → A → Range → A → ℕ → Row A
  Parts k i a q c s = record { first = opened (placed T s a) (suc s) c i; rest = branches (opened r s q) (opened (placed T s a) (suc s) c) (suc k) i }

  pub row-whole : (k i : ℕ) (a : A) → g (T (slot_by r b k i)) ≡ whole a → insert_row g b (T i) (branches r T k i) ≡ record { first = placed T (slot_by r b k i) a i; rest = branches r (placed T (slot_by r b k i) a) k i }
  unfolding branches insert_row first_at spread before
  row-whole zero i a e = rw e (row-path (sym (placed-here T i a)) refl)
  row-whole (suc k) i a e =
      by-test (ltb b (r i).base)
      (λ t.
      let d : g (T i) ≡ whole a = rw t at e in
      let taken : insert_row g b (T i) (branches r T (suc k) i) ≡ record { first = a; rest = branches r T (suc k) i } = rw (t, d) in
      let here : slot_by r b (suc k) i ≡ i = rw t in
      taken
      ∙ row-path (sym (placed-here T i a)) (branches-ext r r T (placed T i a) (suc k) i (λ j lo hi. refl) (λ j lo hi. sym (placed-other T i a j (λ x. omega arith))))
      ∙ ap (Whole (suc k) i a) (sym here))
      (λ t.
      let h = slot_by-ge r b k (suc i) in
      let s : ℕ = slot_by r b k (suc i) in
      let d : g (T s) ≡ whole a = rw t at e in
      let taken : insert_row g b (T i) (branches r T (suc k) i) ≡ record { first = T i; rest = record { range = r i; child = placed T s a (suc i) } ∷ branches r (placed T s a) k (suc i) } = rw (t, row-whole k (suc i) a d) in
      let there : slot_by r b (suc k) i ≡ s = rw t in
      taken ∙ row-path (sym (placed-other T s a i (λ x. omega arith))) refl ∙ ap (Whole (suc k) i a) (sym there))

  pub row-parts : (k i : ℕ) (a : A) (q : Range) (c : A) → g (T (slot_by r b k i)) ≡ parts a q c
      → insert_row g b (T i) (branches r T k i) ≡ record { first = opened (placed T (slot_by r b k i) a) (suc (slot_by r b k i)) c i; rest = branches (opened r (slot_by r b k i) q) (opened (placed T (slot_by r b k i) a) (suc (slot_by r b k i)) c) (suc k) i }
  unfolding branches insert_row first_at spread before
  row-parts zero i a q c e =
      rw e (row-path (sym (opened-low (placed T i a) (suc i) c i (omega arith) ∙ placed-here T i a)) (ap₂ ◌∷◌ (branch-path (sym (opened-here r i q)) (sym (opened-here (placed T i a) (suc i) c))) refl))
  row-parts (suc k) i a q c e =
      by-test (ltb b (r i).base)
      (λ t.
      let d : g (T i) ≡ parts a q c = rw t at e in
      let taken : insert_row g b (T i) (branches r T (suc k) i) ≡ record { first = a; rest = record { range = q; child = c } ∷ branches r T (suc k) i } = rw (t, d) in
      let here : slot_by r b (suc k) i ≡ i = rw t in
      taken
      ∙ row-path (sym (opened-low (placed T i a) (suc i) c i (omega arith) ∙ placed-here T i a))
      (ap₂ ◌∷◌ (branch-path (sym (opened-here r i q)) (sym (opened-here (placed T i a) (suc i) c)))
      (sym (branches-behind r (opened r i q) T (opened (placed T i a) (suc i) c) (suc k) i (λ j lo. opened-next r i q j lo) (λ j lo. opened-next (placed T i a) (suc i) c j lo ∙ placed-other T i a j (λ x. omega arith)))))
      ∙ ap (Parts (suc k) i a q c) (sym here))
      (λ t.
      let h = slot_by-ge r b k (suc i) in
      let s : ℕ = slot_by r b k (suc i) in
      let d : g (T s) ≡ parts a q c = rw t at e in
      let taken : insert_row g b (T i) (branches r T (suc k) i) ≡ record { first = T i; rest = record { range = r i; child = opened (placed T s a) (suc s) c (suc i) } ∷ branches (opened r s q) (opened (placed T s a) (suc s) c) (suc k) (suc i) } = rw (t, row-parts k (suc i) a q c d) in
      let there : slot_by r b (suc k) i ≡ s = rw t in
      taken
      ∙ row-path (sym (opened-low (placed T s a) (suc s) c i (omega arith) ∙ placed-other T s a i (λ x. omega arith))) (ap₂ ◌∷◌ (branch-path (sym (opened-low r s q i (omega arith))) refl) refl)
      ∙ ap (Parts (suc k) i a q c) (sym there))

-- Sums

pub sum-ext : (n : ℕ) (f g : ℕ → ℕ) → ((j : ℕ) → j < n → f j ≡ g j) → sum n f ≡ sum n g
unfolding sum
sum-ext zero f g e = refl
sum-ext (suc n) f g e = ap₂ ◌+◌ (sum-ext n f g (λ j h. e j (omega arith))) (e n (omega arith))

pub sum-front : (n : ℕ) (f : ℕ → ℕ) → sum (suc n) f ≡ f 0 + sum n (λ j. f (suc j))
unfolding sum
sum-front zero f = omega arith
sum-front (suc n) f = let h = sum-front n f in omega arith

pub sum_one : (n : ℕ) (f : ℕ → ℕ) (i : ℕ) → i < n → f i ≤ sum n f
unfolding sum
sum_one zero f i h = absurd (omega arith)
sum_one (suc n) f i h = by-dec (dec_lt i n) (λ l. let g = sum_one n f i l in omega arith) (λ l. let e : i ≡ n = omega arith in rw e (omega arith))

pub sum-two : (n : ℕ) (f : ℕ → ℕ) (i j : ℕ) → (i ≡ j → ⊥) → i < n → j < n → f i + f j ≤ sum n f
unfolding sum
sum-two zero f i j d l u = absurd (omega arith)
sum-two (suc n) f i j d l u =
    by-dec (dec_lt i n)
    (λ a. by-dec (dec_lt j n) (λ c. let g = sum-two n f i j d a c in omega arith) (λ c. let e : j ≡ n = omega arith in let g = sum_one n f i a in rw e (omega arith)))
    (λ a. let e : i ≡ n = omega arith in let g = sum_one n f j (omega arith) in rw e (omega arith))

pub sum-placed : (n : ℕ) (f : ℕ → ℕ) (s y : ℕ) → s < n → sum n (placed f s y) + f s ≡ sum n f + y
unfolding sum
sum-placed zero f s y h = absurd (omega arith)
sum-placed (suc n) f s y h =
    by-dec (dec_lt s n)
    (λ l. let g = sum-placed n f s y l in let e = placed-other f s y n (λ x. omega arith) in omega arith)
    (λ l. let e : s ≡ n = omega arith in
    let g : sum n (placed f s y) ≡ sum n f = sum-ext n (placed f s y) f (λ j lo. placed-other f s y j (λ x. omega arith)) in
    let d : placed f s y n ≡ y = ap (placed f s y) (sym e) ∙ placed-here f s y in let u = ap f e in omega arith)

sum-last : (n : ℕ) (f : ℕ → ℕ) (s y : ℕ) → s ≡ n → sum n (opened f s y) + opened f s y n ≡ sum n f + y
sum-last n f s y e =
    let g : sum n (opened f s y) ≡ sum n f = sum-ext n (opened f s y) f (λ j lo. opened-low f s y j (omega arith)) in
    let d : opened f s y n ≡ y = ap (opened f s y) (sym e) ∙ opened-here f s y in
    omega arith

pub sum-opened : (n : ℕ) (f : ℕ → ℕ) (s y : ℕ) → s ≤ n → sum (suc n) (opened f s y) ≡ sum n f + y
unfolding sum
sum-opened zero f s y h = sum-last zero f s y (omega arith)
sum-opened (suc n) f s y h =
    by-dec (dec_lt n s) (λ l. sum-last (suc n) f s y (omega arith))
    (λ l. let g = sum-opened n f s y (omega arith) in let v = opened-next f s y n (omega arith) in omega arith)

-- Numbers of nodes

pub occ-append : (m : ℕ) (xs ys : List ℕ) → occ m (xs ++ ys) ≡ occ m xs + occ m ys
unfolding occ
occ-append m [] ys = omega arith
occ-append m (x ∷ xs) ys = let h = occ-append m xs ys in omega arith

-- w adds up over lists: occurrences of a number, or the length
module _ {A : Type 0} (w : List ℕ → ℕ) (nil : w [] ≡ 0) (adds : (xs ys : List ℕ) → w (xs ++ ys) ≡ w xs + w ys) (g : A → List ℕ) (r : ℕ → Range) (T : ℕ → A) where
  weigh : (k i : ℕ) → w (g (T i)) + w (besides g (branches r T k i)) ≡ sum (suc k) (λ j. w (g (T (i + j))))
  unfolding branches besides sum
  weigh zero i = let z : i + 0 ≡ i = omega arith in let e = ap (λ (x : ℕ). w (g (T x))) z in omega arith
  weigh (suc k) i =
      let h = weigh k (suc i) in
      let e = adds (g (T (suc i))) (besides g (branches r T k (suc i))) in
      let f = sum-front (suc k) (λ j. w (g (T (i + j)))) in
      let z : i + 0 ≡ i = omega arith in let d = ap (λ (x : ℕ). w (g (T x))) z in
      let u = sum-ext (suc k) (λ j. w (g (T (suc i + j)))) (λ j. w (g (T (i + suc j)))) (λ j l. let y : suc i + j ≡ i + suc j = omega arith in ap (λ (x : ℕ). w (g (T x))) y) in
      omega arith

  pub row-weight : (k : ℕ) → w (g (T 0) ++ besides g (branches r T k 0)) ≡ sum (suc k) (λ j. w (g (T j)))
  row-weight k =
      adds (g (T 0)) (besides g (branches r T k 0)) ∙ weigh k 0
      ∙ sum-ext (suc k) (λ j. w (g (T (0 + j)))) (λ j. w (g (T j))) (λ j l. let y : 0 + j ≡ j = omega arith in ap (λ (x : ℕ). w (g (T x))) y)

-- The place that a search finds

module _ (t : ℕ → Bool) where
  first-from : (k i x : ℕ) → i ≤ x → x ≤ i + k → ((j : ℕ) → i ≤ j → j < x → t j ≡ false) → (x < i + k → t x ≡ true) → x ≡ first_at t k i
  unfolding first_at
  first-from zero i x lo hi before there = omega arith
  first-from (suc k) i x lo hi before there =
      by-dec (dec_lt i x)
      (λ l. rw (before i (omega arith) l) (first-from k (suc i) x (omega arith) (omega arith) (λ j a b. before j (omega arith) b) (λ h. there (omega arith))))
      (λ l. let e : x ≡ i = omega arith in rw (rw e at (there (omega arith))) e)

module _ (r : ℕ → Range) (k x : ℕ) where
  -- what a test of ranges answers, by place
  pub first-is : (f : Range → Bool) → FirstPlace (λ q v. v ≡ f q) r k x → x ≡ first_at (λ j. f (r j)) k 0
  first-is f p = first-from (λ j. f (r j)) k 0 x (omega arith) (let w = p.within in omega arith) (λ j lo hi. sym (p.before j hi)) (λ h. sym (p.there (omega arith)))
