-- The walk and the nodes that it meets: it finds all lawful exactly where the tree stands, no node is in it twice, and its ranges ascend and are proper.
use mathlib.Core.Path.{◌≡◌, refl, sym, ap, ◌∙◌}
use mathlib.Core.Bool.{Bool, true, false, cond}
use mathlib.Core.List.{List, [], ◌∷◌, ◌++◌, append-nil}
use Prim.Native.Nat.{ℕ, zero, suc, ◌+◌, ◌≤◌, ◌<◌}
use native.Mathlib.Omega.{arith}
use native.Mathlib.Decide.{dec_lt, ℕ_discrete}
use lib.Dec.{eqb}
use lib.ListN.{length, get_or, set, length-set}
use lib.Seq.{get_or-set_same, get_or-set_other}
use borrow.Author.Tests.{eqb-true, eqb-false, eq-eqb}
use Rattle.words.proofs.Cases.{by-test, by-dec, true-false}
use Rattle.std.specs.Prelude.{Option, Some}
use Rattle.std.proofs.lemmas.Option.{none-some, same_Some}
use Rattle.trees.specs.declared.Range.{Range}
use Rattle.trees.specs.declared.Walk.{Walk}
use Rattle.trees.specs.Nodes.{count_in, range_in, child_in}
use Rattle.trees.specs.Trees.{Tree, along, in_row, contents, nodes, besides, branches, tree_at, occ}
use Rattle.trees.specs.Inner.Spans.{Between, Proper}
use Rattle.trees.specs.Inner.Walk.{met, enters, visit_from, visit}
use Rattle.trees.specs.Inner.Standing.{Stands}
use Rattle.trees.proofs.RangeLaws.{around, between_le, proper-head, proper-left, proper-right}
use Rattle.trees.proofs.CheckLaws.{is-entered, enters_is, passed_is, through}
use Rattle.trees.proofs.LawfulLaws.{passes}
use Rattle.trees.proofs.PlaceLaws.{occ-append}

-- the numbers ns were unmarked, and are the ones that s' has marked besides
pub record Marked (s : List Bool) (ns : List ℕ) (s' : List Bool) : Type 0 where
  pub once : (m : ℕ) → occ m ns ≤ 1
  pub new : (m : ℕ) → 1 ≤ occ m ns → get_or s m false ≡ false
  pub marks : (m : ℕ) → 1 ≤ occ m ns → get_or s' m false ≡ true
  pub others : (m : ℕ) → occ m ns ≡ 0 → get_or s' m false ≡ get_or s m false
  pub size : length s' ≡ length s

marked-none : (s : List Bool) → Marked s [] s
unfolding occ
marked-none s = record { once = λ m. omega arith; new = λ m l. absurd (omega arith); marks = λ m l. absurd (omega arith); others = λ m z. refl; size = refl }

marked_append : (s : List Bool) (xs : List ℕ) (s₁ : List Bool) (ys : List ℕ) (s₂ : List Bool) → Marked s xs s₁ → Marked s₁ ys s₂ → Marked s (xs ++ ys) s₂
marked_append s xs s₁ ys s₂ p q = record {
  once = λ m. let e = occ-append m xs ys in let a = p.once m in let b = q.once m in
      by-dec (dec_lt 0 (occ m xs))
      (λ l. by-dec (dec_lt 0 (occ m ys)) (λ k. true-false (get_or s₁ m false) (p.marks m l) (q.new m k)) (λ k. omega arith))
      (λ l. omega arith);
  new = λ m l. let e = occ-append m xs ys in
      by-dec (dec_lt 0 (occ m xs)) (λ k. p.new m k) (λ k. sym (p.others m (omega arith)) ∙ q.new m (omega arith));
  marks = λ m l. let e = occ-append m xs ys in
      by-dec (dec_lt 0 (occ m ys)) (λ k. q.marks m k) (λ k. q.others m (omega arith) ∙ p.marks m (omega arith));
  others = λ m z. let e = occ-append m xs ys in q.others m (omega arith) ∙ p.others m (omega arith);
  size = q.size ∙ p.size;
}

marked-one : (s : List Bool) (n : ℕ) → n < length s → get_or s n false ≡ false → Marked s (n ∷ []) (set s n true)
unfolding occ
marked-one s n h z = record {
  once = λ m. by-test (eqb n m) (λ t. rw t (omega arith)) (λ t. rw t (omega arith));
  new = λ m l. by-test (eqb n m) (λ t. let e : n ≡ m = eqb-true _ _ t in ap (λ (x : ℕ). get_or s x false) (sym e) ∙ z) (λ t. absurd (let x = rw t at l in omega arith));
  marks = λ m l. by-test (eqb n m) (λ t. let e : n ≡ m = eqb-true _ _ t in ap (λ (x : ℕ). get_or (set s n true) x false) (sym e) ∙ get_or-set_same s n true false h) (λ t. absurd (let x = rw t at l in omega arith));
  others = λ m l. by-test (eqb n m) (λ t. absurd (let x = rw t at l in omega arith)) (λ t. let d = eqb-false n m t in get_or-set_other s n m true false (λ e. d (sym e)));
  size = length-set s n true;
}

-- A walk that found all lawful

pub record Walked (b : List ℕ) (h least n : ℕ) (w w' : Walk) : Type 0 where
  pub stands : Stands b h least n
  pub marked : Marked w.seen (nodes h (tree_at b h n)) w'.seen

module _ (b : List ℕ) (h n : ℕ) (known : (c : ℕ) (w w' : Walk) → length w.seen ≡ 64 → visit b h 2 c w ≡ Some w' → Walked b h 2 c w w') where
  abbrev Kids : ℕ → Tree h
  Kids j = tree_at b h (child_in b n j)

  record RowWalked (k i : ℕ) (w w' : Walk) : Type 0 where
    stands : (j : ℕ) → i ≤ j → j ≤ i + k → Stands b h 2 (child_in b n j)
    marked : Marked w.seen (nodes h (Kids i) ++ besides (nodes h) (branches (range_in b n) Kids k i)) w'.seen

  row_walked : (k i : ℕ) (w w' : Walk) → length w.seen ≡ 64 → visit_from (visit b h 2) b n k i w ≡ Some w' → RowWalked k i w w'
  unfolding visit_from besides branches
  row_walked zero i w w' len t =
      let s = known (child_in b n i) w w' len t in
      record { stands = λ j lo hi. let e : j ≡ i = omega arith in rw e s.stands; marked = rw (append-nil (nodes h (Kids i))) s.marked }
  row_walked (suc k) i w w' len t =
      let u = through (visit b h 2) b n k i w w' t in
      let x = passes u.child (range_in b n i) u.next u.pass in
      let s = known (child_in b n i) w u.child len u.below in
      let q = row_walked k (suc i) u.next w' (ap length x.seen ∙ s.marked.size ∙ len) u.rest in
      record {
        stands = λ j lo hi. by-dec (ℕ_discrete j i) (λ e. rw e s.stands) (λ e. q.stands j (omega arith) (omega arith));
        marked = marked_append w.seen (nodes h (Kids i)) u.child.seen (nodes h (Kids (suc i)) ++ besides (nodes h) (branches (range_in b n) Kids k (suc i))) _ s.marked (rw x.seen at q.marked);
      }

pub visit-walked : (b : List ℕ) (h least n : ℕ) (w w' : Walk) → length w.seen ≡ 64 → visit b h least n w ≡ Some w' → Walked b h least n w w'
unfolding visit tree_at nodes met
visit-walked b zero least n w w' len t = record { stands = tt; marked = rw (sym (same_Some w w' t)) (marked-none w.seen) }
visit-walked b (suc h) least n w w' len t =
    by-test (enters b (eqb h 0) least n w)
    (λ e. let x = is-entered b (eqb h 0) least n w e in
    let num = x.number in
    let one : Marked w.seen (n ∷ []) (met w n).seen = marked-one w.seen n (omega arith) x.new in
    let q = row_walked b h n (λ c v v' l s. visit-walked b h 2 c v v' l s) (count_in b n) 0 (met w n) w' (one.size ∙ len) (rw e at t) in
    record {
      stands = record { number = x.number; enough = x.fits.enough; few = x.fits.few; flag = x.fits.flag; no-ranges = x.fits.ranges; no-children = x.fits.children; below = λ i l. q.stands i (omega arith) (omega arith) };
      marked = marked_append w.seen (n ∷ []) (met w n).seen _ _ one q.marked;
    })
    (λ e. absurd (none-some w' (rw e at t)))

-- A tree that is lawful is found so

pub record Lawfully (o : Option Walk) (hi : ℕ) : Type 0 where
  pub walk : Walk
  pub is : o ≡ Some walk
  pub low : walk.low ≤ hi

module _ (b : List ℕ) (h n : ℕ)
    (known : (c : ℕ) (w : Walk) (hi : ℕ) → Stands b h 2 c → ((m : ℕ) → occ m (nodes h (tree_at b h c)) ≤ 1) → ((m : ℕ) → 1 ≤ occ m (nodes h (tree_at b h c)) → get_or w.seen m false ≡ false) → length w.seen ≡ 64 → Between w.low (contents h (tree_at b h c)) hi → Proper (contents h (tree_at b h c)) → Lawfully (visit b h 2 c w) hi) where
  row-found : (k i : ℕ) (w : Walk) (hi : ℕ) → ((j : ℕ) → i ≤ j → j ≤ i + k → Stands b h 2 (child_in b n j))
      → ((m : ℕ) → occ m (nodes h (tree_at b h (child_in b n i)) ++ besides (nodes h) (branches (range_in b n) (λ j. tree_at b h (child_in b n j)) k i)) ≤ 1)
      → ((m : ℕ) → 1 ≤ occ m (nodes h (tree_at b h (child_in b n i)) ++ besides (nodes h) (branches (range_in b n) (λ j. tree_at b h (child_in b n j)) k i)) → get_or w.seen m false ≡ false)
      → length w.seen ≡ 64
      → Between w.low (contents h (tree_at b h (child_in b n i)) ++ along (contents h) (branches (range_in b n) (λ j. tree_at b h (child_in b n j)) k i)) hi
      → Proper (contents h (tree_at b h (child_in b n i)) ++ along (contents h) (branches (range_in b n) (λ j. tree_at b h (child_in b n j)) k i))
      → Lawfully (visit_from (visit b h 2) b n k i w) hi
  unfolding visit_from besides branches along
  row-found zero i w hi st once new len bt pr =
      known (child_in b n i) w hi (st i (omega arith) (omega arith)) (λ m. rw (append-nil (nodes h (tree_at b h (child_in b n i)))) at (once m)) (λ m. rw (append-nil (nodes h (tree_at b h (child_in b n i)))) at (new m)) len
      (rw (append-nil (contents h (tree_at b h (child_in b n i)))) at bt) (rw (append-nil (contents h (tree_at b h (child_in b n i)))) at pr)
  row-found (suc k) i w hi st once new len bt pr =
      let A : List ℕ = nodes h (tree_at b h (child_in b n i)) in
      let B : List ℕ = nodes h (tree_at b h (child_in b n (suc i))) ++ besides (nodes h) (branches (range_in b n) (λ j. tree_at b h (child_in b n j)) k (suc i)) in
      let C : List Range = contents h (tree_at b h (child_in b n i)) in
      let D : List Range = contents h (tree_at b h (child_in b n (suc i))) ++ along (contents h) (branches (range_in b n) (λ j. tree_at b h (child_in b n j)) k (suc i)) in
      let r : Range = range_in b n i in
      let ar = around w.low C r D hi bt in
      let x = known (child_in b n i) w r.base (st i (omega arith) (omega arith)) (λ m. let e = occ-append m A B in let o = once m in omega arith) (λ m l. let e = occ-append m A B in new m (omega arith)) len ar.left (proper-left C (r ∷ D) pr) in
      let v : Walk = x.walk in
      let y = visit-walked b h 2 (child_in b n i) w v len x.is in
      let is = proper-head (proper-right C (r ∷ D) pr) in
      let p : Walk = record { low = r.limit; seen = v.seen } in
      let z = row-found k (suc i) p hi (λ j lo up. st j (omega arith) (omega arith)) (λ m. let e = occ-append m A B in let o = once m in omega arith)
      (λ m l. let e = occ-append m A B in let o = once m in let u = y.marked.others m (omega arith) in u ∙ new m (omega arith))
      (y.marked.size ∙ len) ar.right is.1 in
      record { walk = z.walk; is = rw (x.is, sym (passed_is v r x.low is.0)) z.is; low = z.low }

not-head : (n m : ℕ) → eqb n m ≡ false → occ m (n ∷ []) ≡ 0
unfolding occ
not-head n m t = rw t refl

pub visit-found : (b : List ℕ) (h least n : ℕ) (w : Walk) (hi : ℕ) → Stands b h least n → ((m : ℕ) → occ m (nodes h (tree_at b h n)) ≤ 1) → ((m : ℕ) → 1 ≤ occ m (nodes h (tree_at b h n)) → get_or w.seen m false ≡ false) → length w.seen ≡ 64 → Between w.low (contents h (tree_at b h n)) hi → Proper (contents h (tree_at b h n)) → Lawfully (visit b h least n w) hi
unfolding visit tree_at nodes contents in_row met occ
visit-found b zero least n w hi st once new len bt pr = record { walk = w; is = refl; low = between_le bt }
visit-found b (suc h) least n w hi st once new len bt pr =
    let head : cond {A = ℕ} (eqb n n) 1 0 ≡ 1 = rw (eq-eqb n n refl) refl in
    let clear : get_or w.seen n false ≡ false = new n (omega arith) in
    let e = enters_is b (eqb h 0) least n w (record { number = st.number; new = clear; fits = record { enough = st.enough; few = st.few; flag = st.flag; ranges = st.no-ranges; children = st.no-children } }) in
    let num = st.number in
    let one = marked-one w.seen n (omega arith) clear in
    let z = row-found b h n (λ c v k. visit-found b h 2 c v k) (count_in b n) 0 (met w n) hi (λ j lo up. st.below j (omega arith)) (λ m. let o = once m in omega arith)
    (λ m l. let o = once m in one.others m (not-head n m (let y = head in by-test (eqb n m) (λ t. absurd (let f = rw t at o in omega arith)) (λ t. t))) ∙ new m (omega arith))
    (one.size ∙ len) bt pr in
    record { walk = z.walk; is = rw e z.is; low = z.low }
