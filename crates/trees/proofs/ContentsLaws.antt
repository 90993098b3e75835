-- What the calls say of a list of ranges that ascends: whether it has a page, a BASE or an overlap is seen from one range of it.
use mathlib.Core.Path.{◌≡◌, refl, sym, ap, ◌∙◌}
use mathlib.Core.Bool.{Bool, true, false, cond, not, ◌&&◌, ◌||◌}
use mathlib.Core.List.{List, [], ◌∷◌, ◌++◌}
use Prim.Native.Nat.{ℕ, ◌≤◌, ◌<◌}
use native.Mathlib.Omega.{arith}
use lib.Dec.{ltb, eqb}
use borrow.Author.Tests.{ltb-true, ltb-false, lt-ltb, le-ltb, eq-eqb, ne_eqb}
use Rattle.words.proofs.Cases.{by-test, true-false, or-none, or-false, and-false}
use Rattle.std.specs.Prelude.{Option, Some}
use Rattle.std.proofs.lemmas.Option.{none-some, same_Some}
use Rattle.trees.specs.declared.Range.{Range}
use Rattle.trees.specs.Ranges.{covers, page_value, look_list, held, insert_list, remove_list, holds_base, overlapping, overlaps}
use Rattle.trees.specs.Inner.Spans.{Between, none, one}
use Rattle.trees.specs.Inner.Search.{first_behind, begins_at, has_page, begins_before}
use Rattle.trees.proofs.RangeLaws.{Around, around, between_le, not-covered-low, not-covered-high, page-in, remove-here, look-not-held}
use Rattle.trees.proofs.TakingLaws.{holds-none}

-- By the first range that ends behind a page

held_low : {lo : ℕ} {xs : List Range} {hi : ℕ} (p : ℕ) → p < lo → Between lo xs hi → held xs p ≡ false
unfolding held
held_low p h (none a) = refl
held_low p h (one {r = r} a b m) = rw (not-covered-low r p (omega arith)) (held_low p (omega arith) m)

pub overlaps-low : {lo : ℕ} {xs : List Range} {hi : ℕ} (r : Range) → r.limit ≤ lo → Between lo xs hi → overlaps r xs ≡ false
unfolding overlaps overlapping
overlaps-low r h (none a) = refl
overlaps-low r h (one {r = q} a b m) = rw (le-ltb q.base r.limit (omega arith), and-false (ltb r.base q.limit) false refl) (overlaps-low r (omega arith) m)

held-behind : {lo : ℕ} {rs : List Range} {hi : ℕ} (p : ℕ) → Between lo rs hi → held rs p ≡ has_page (first_behind p rs) p
unfolding held first_behind has_page
held-behind p (none a) = refl
held-behind p (one {r = r} {rs = rs} a b m) =
    by-test (ltb p r.limit)
    (λ e. rw e (or-none (covers r p) (held rs p) (held_low p (ltb-true _ _ e) m)))
    (λ e. rw (e, not-covered-high r p (ltb-false _ _ e)) (held-behind p m))

look-behind : {lo : ℕ} {rs : List Range} {hi : ℕ} (p : ℕ) (x : Range) → Between lo rs hi → first_behind p rs ≡ Some x → covers x p ≡ true → look_list rs p ≡ page_value x p
unfolding look_list first_behind
look-behind p x (none a) is t = absurd (none-some x is)
look-behind p x (one {r = r} {rs = rs} a b m) is t =
    by-test (ltb p r.limit)
    (λ e. let d : r ≡ x = same_Some r x (rw e at is) in rw (ap (λ (y : Range). covers y p) d ∙ t) (ap (λ (y : Range). page_value y p) d))
    (λ e. rw (not-covered-high r p (ltb-false _ _ e)) (look-behind p x m (rw e at is) t))

overlaps-behind : {lo : ℕ} {rs : List Range} {hi : ℕ} (r : Range) → r.base < r.limit → Between lo rs hi → overlaps r rs ≡ begins_before (first_behind r.base rs) r.limit
unfolding overlaps overlapping first_behind begins_before
overlaps-behind r s (none a) = refl
overlaps-behind r s (one {r = q} {rs = rs} a b m) =
    by-test (ltb r.base q.limit)
    (λ e. by-test (ltb q.base r.limit)
    (λ d. rw (e, d))
    (λ d. let h : r.limit ≤ q.base = ltb-false _ _ d in rw (e, d) (overlaps-low r (omega arith) m)))
    (λ e. rw e (overlaps-behind r s m))

holds-behind : {lo : ℕ} {rs : List Range} {hi : ℕ} (b : ℕ) → Between lo rs hi → holds_base b rs ≡ begins_at (first_behind b rs) b
unfolding holds_base first_behind begins_at
holds-behind b (none a) = refl
holds-behind b (one {r = q} {rs = rs} l s m) =
    by-test (ltb b q.limit)
    (λ e. rw e (or-none (eqb q.base b) (holds_base b rs) (holds-none b (ltb-true _ _ e) m)))
    (λ e. let h : q.limit ≤ b = ltb-false _ _ e in rw (e, ne_eqb q.base b (λ z. omega arith)) (holds-behind b m))

-- the same for a caller that has found what is there
module _ {lo : ℕ} {rs : List Range} {hi : ℕ} (m : Between lo rs hi) (o : Option Range) (p : ℕ) (is : o ≡ first_behind p rs) where
  pub behind-held : held rs p ≡ has_page o p
  behind-held = held-behind p m ∙ ap (λ (x : Option Range). has_page x p) (sym is)

  pub behind-value : (x : Range) → o ≡ Some x → covers x p ≡ true → look_list rs p ≡ page_value x p
  behind-value x some c = look-behind p x m (sym is ∙ some) c

  pub behind-base : holds_base p rs ≡ begins_at o p
  behind-base = holds-behind p m ∙ ap (λ (x : Option Range). begins_at x p) (sym is)

pub behind-overlaps : {lo : ℕ} {rs : List Range} {hi : ℕ} → Between lo rs hi → (o : Option Range) (r : Range) → o ≡ first_behind r.base rs → r.base < r.limit → overlaps r rs ≡ begins_before o r.limit
behind-overlaps m o r is some = overlaps-behind r some m ∙ ap (λ (x : Option Range). begins_before x r.limit) (sym is)

-- After an insertion

overlapping-is : (r q : Range) → r.base < q.limit → q.base < r.limit → overlapping r q ≡ true
unfolding overlapping
overlapping-is r q h k = rw (lt-ltb r.base q.limit h, lt-ltb q.base r.limit k)

-- no page is in both of two ranges that do not overlap
not-both : (r q : Range) (p : ℕ) → overlapping r q ≡ false → covers r p ≡ true → covers q p ≡ false
not-both r q p o t =
    by-test (covers q p)
    (λ u. let a = page-in r p t in let c = page-in q p u in let d = a.0 in let e = a.1 in let f = c.0 in let g = c.1 in true-false (overlapping r q) (overlapping-is r q (omega arith) (omega arith)) o)
    (λ u. u)

module _ (r : Range) (p : ℕ) where
  pub look-inserted : (rs : List Range) → overlaps r rs ≡ false → look_list (insert_list r rs) p ≡ cond (covers r p) (page_value r p) (look_list rs p)
  unfolding insert_list look_list overlaps
  look-inserted [] o = refl
  look-inserted (q ∷ qs) o =
      let d = or-false (overlapping r q) (overlaps r qs) o in
      let k = look-inserted qs d.1 in
      by-test (ltb r.base q.base) (λ e. rw e)
      (λ e. rw e (by-test (covers r p)
      (λ t. rw (not-both r q p d.0 t, k, t))
      (λ t. rw (k, t))))

  pub held-inserted : (rs : List Range) → held (insert_list r rs) p ≡ (covers r p || held rs p)
  unfolding insert_list held
  held-inserted [] = refl
  held-inserted (q ∷ qs) =
      let k = held-inserted qs in
      by-test (ltb r.base q.base) (λ e. rw e)
      (λ e. rw (e, k) (by-test (covers q p) (λ t. rw t (sym (or-true (covers r p)))) (λ t. rw t)))
    where
      or-true : (a : Bool) → (a || true) ≡ true
      or-true true = refl
      or-true false = refl

pub holds-inserted : (r : Range) (rs : List Range) → holds_base r.base (insert_list r rs) ≡ true
unfolding insert_list holds_base
holds-inserted r [] = rw (eq-eqb r.base r.base refl)
holds-inserted r (q ∷ qs) =
    let k = holds-inserted r qs in
    by-test (ltb r.base q.base) (λ e. rw (e, eq-eqb r.base r.base refl))
    (λ e. rw (e, k) (by-test (eqb q.base r.base) (λ t. rw t) (λ t. rw t)))

-- removal undoes it
pub remove-inserted : {lo : ℕ} {rs : List Range} {hi : ℕ} (r : Range) → r.base < r.limit → overlaps r rs ≡ false → Between lo rs hi → remove_list r.base (insert_list r rs) ≡ rs
unfolding insert_list remove_list overlaps
remove-inserted r s o (none a) = rw (eq-eqb r.base r.base refl)
remove-inserted r s o (one {r = q} {rs = qs} a b m) =
    let d = or-false (overlapping r q) (overlaps r qs) o in
    let k = remove-inserted r s d.1 m in
    by-test (ltb r.base q.base) (λ e. rw (e, eq-eqb r.base r.base refl))
    (λ e. rw (e, ne_eqb q.base r.base (λ z. true-false (overlapping r q) (overlapping-is r q (omega arith) (omega arith)) d.0)) (ap (λ (l : List Range). q ∷ l) k))

-- After the removal of q, one of the ranges

module _ (q : Range) (ys : List Range) (p : ℕ) where
  look-without : (xs : List Range) → covers q p ≡ false → look_list (xs ++ ys) p ≡ look_list (xs ++ q ∷ ys) p
  unfolding look_list
  look-without [] t = rw t
  look-without (x ∷ xs) t = rw (look-without xs t)

  held-without : (xs : List Range) → covers q p ≡ false → held (xs ++ ys) p ≡ held (xs ++ q ∷ ys) p
  unfolding held
  held-without [] t = rw t
  held-without (x ∷ xs) t = rw (held-without xs t)

  held-gone : {lo hi : ℕ} (xs : List Range) → Between lo xs q.base → Between q.limit ys hi → covers q p ≡ true → held (xs ++ ys) p ≡ false
  unfolding held
  held-gone [] m n t = held_low p (page-in q p t).1 n
  held-gone (x ∷ xs) (one a b m) n t = let k = between_le m in let l = (page-in q p t).0 in rw (not-covered-high x p (omega arith)) (held-gone xs m n t)

module _ {lo : ℕ} {rs : List Range} {hi : ℕ} (m : Between lo rs hi) (b : ℕ) (xs : List Range) (q : Range) (ys : List Range) (is : rs ≡ xs ++ q ∷ ys) (at : q.base ≡ b) (p : ℕ) where
  parts-of : Around lo xs q ys hi
  parts-of = around lo xs q ys hi (rw is at m)

  without : remove_list b rs ≡ xs ++ ys
  without = let w = parts-of in rw is (remove-here b q ys lo xs w.left at)

  pub look-removed : look_list (remove_list b rs) p ≡ cond (covers q p) 65536 (look_list rs p)
  look-removed =
      let w = parts-of in
      rw (without, is)
      (by-test (covers q p)
      (λ t. rw t (look-not-held (xs ++ ys) p (held-gone q ys p xs w.left w.right t)))
      (λ t. rw t (look-without q ys p xs t)))

  pub held-removed : held (remove_list b rs) p ≡ (not (covers q p) && held rs p)
  held-removed =
      let w = parts-of in
      rw (without, is)
      (by-test (covers q p)
      (λ t. rw t (held-gone q ys p xs w.left w.right t))
      (λ t. rw t (held-without q ys p xs t)))
