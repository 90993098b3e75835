-- The check by its cases, as the code goes through them.
use mathlib.Core.Path.{◌≡◌, refl, sym, ap, ◌∙◌}
use mathlib.Core.Bool.{Bool, true, false, not, ◌&&◌}
use mathlib.Core.List.{List}
use Prim.Native.Nat.{ℕ, zero, suc, ◌+◌, ◌-◌, ◌*◌, ◌≤◌, ◌<◌}
use native.Mathlib.Omega.{arith}
use native.Mathlib.Numerals.{add-one}
use lib.Dec.{leb, eqb}
use lib.ListN.{get_or}
use borrow.Author.Tests.{leb-true, eqb-true, le-leb, lt-leb, eq-eqb, ne_eqb, le-ltb, lt-ltb, not-true}
use Rattle.words.specs.Searches.{all_from}
use Rattle.words.specs.Inner.{same_in}
use Rattle.words.proofs.Cases.{by-test, and-true, both_ways}
use Rattle.std.specs.Prelude.{Option, Some, None, option_and_then}
use Rattle.std.proofs.lemmas.Option.{none-some}
use Rattle.trees.specs.declared.Range.{Range}
use Rattle.trees.specs.declared.Walk.{Walk}
use Rattle.trees.specs.Ranges.{proper}
use Rattle.trees.specs.Nodes.{root_in, count_in, leaf_in, range_in, child_in, leaf_word}
use Rattle.trees.specs.Trees.{height_from, height_of}
use Rattle.trees.specs.Inner.Walk.{zeros_in, kids, node_fits, met, passed, enters, visit_from, visit, free_fits, start, walked, came_through, lawful}

refuses : (w : Bool) → (w ≡ true → ⊥) → false ≡ w
refuses w n = by-test w (λ e. absurd (n e)) sym

-- The words of a node

pub zeros-at : (b : List ℕ) (n k m : ℕ) → all_from ((1 + n * 24 + m) - (1 + n * 24 + k)) (1 + n * 24 + k) (same_in b 0) ≡ zeros_in b n k m
unfolding zeros_in
zeros-at b n k m = let e : (1 + n * 24 + m) - (1 + n * 24 + k) ≡ m - k = omega arith in rw e

pub record FitsIn (b : List ℕ) (leaf : Bool) (least n : ℕ) : Type 0 where
  pub enough : least ≤ count_in b n
  pub few : count_in b n ≤ 4
  pub flag : leaf_in b n ≡ leaf_word leaf
  pub ranges : zeros_in b n (2 + count_in b n * 4) 18 ≡ true
  pub children : zeros_in b n (18 + kids leaf (count_in b n)) 24 ≡ true

module _ (b : List ℕ) (leaf : Bool) (least n : ℕ) where
  pub fits_in : node_fits b leaf least n ≡ true → FitsIn b leaf least n
  unfolding node_fits
  fits_in e =
      let z = and-true (leb least (count_in b n)) (leb (count_in b n) 4 && (eqb (leaf_in b n) (leaf_word leaf) && (zeros_in b n (2 + count_in b n * 4) 18 && zeros_in b n (18 + kids leaf (count_in b n)) 24))) e in
      let u = and-true (leb (count_in b n) 4) (eqb (leaf_in b n) (leaf_word leaf) && (zeros_in b n (2 + count_in b n * 4) 18 && zeros_in b n (18 + kids leaf (count_in b n)) 24)) z.1 in
      let v = and-true (eqb (leaf_in b n) (leaf_word leaf)) (zeros_in b n (2 + count_in b n * 4) 18 && zeros_in b n (18 + kids leaf (count_in b n)) 24) u.1 in
      let k = and-true (zeros_in b n (2 + count_in b n * 4) 18) (zeros_in b n (18 + kids leaf (count_in b n)) 24) v.1 in
      record { enough = leb-true _ _ z.0; few = leb-true _ _ u.0; flag = eqb-true _ _ v.0; ranges = k.0; children = k.1 }

  pub in-fits : FitsIn b leaf least n → node_fits b leaf least n ≡ true
  unfolding node_fits
  in-fits q = rw (le-leb least (count_in b n) q.enough, le-leb (count_in b n) 4 q.few, eq-eqb (leaf_in b n) (leaf_word leaf) q.flag, q.ranges, q.children)

  pub fits_not : (FitsIn b leaf least n → ⊥) → false ≡ node_fits b leaf least n
  fits_not m = refuses (node_fits b leaf least n) (λ e. m (fits_in e))

  module _ (w : Walk) where
    pub record Enters : Type 0 where
      pub number : n ≤ 63
      pub new : get_or w.seen n false ≡ false
      pub fits : FitsIn b leaf least n

    pub enters_is : Enters → enters b leaf least n w ≡ true
    unfolding enters
    enters_is q = rw (le-leb n 63 q.number, q.new, in-fits q.fits)

    pub is-entered : enters b leaf least n w ≡ true → Enters
    unfolding enters
    is-entered e =
        let x = and-true (leb n 63) (not (get_or w.seen n false) && node_fits b leaf least n) e in
        let y = and-true (not (get_or w.seen n false)) (node_fits b leaf least n) x.1 in
        record { number = leb-true _ _ x.0; new = not-true (get_or w.seen n false) y.0; fits = fits_in y.1 }

    pub enters-not : (Enters → ⊥) → false ≡ enters b leaf least n w
    enters-not m = refuses (enters b leaf least n w) (λ e. m (is-entered e))

    pub enters-if : n ≤ 63 → get_or w.seen n false ≡ false → node_fits b leaf least n ≡ enters b leaf least n w
    unfolding enters
    enters-if h e = rw (le-leb n 63 h, e)

-- Steps of the walk

module _ (w : Walk) (r : Range) where
  pub passed-low : r.base < w.low → None ≡ passed w r
  unfolding passed
  passed-low h = rw (lt-leb w.low r.base h)

  pub passed-not : proper r ≡ false → None ≡ passed w r
  unfolding passed
  passed-not e = by-test (leb w.low r.base) (λ d. rw (d, e)) (λ d. rw d)

  pub passed_is : w.low ≤ r.base → proper r ≡ true → Some (record { low = r.limit; seen = w.seen }) ≡ passed w r
  unfolding passed
  passed_is h e = rw (le-leb w.low r.base h, e)

module _ (g : ℕ → Walk → Option Walk) (b : List ℕ) (n i : ℕ) (w : Walk) where
  -- the child ends the walk
  pub from_none : (k : ℕ) → g (child_in b n i) w ≡ None → None ≡ visit_from g b n k i w
  unfolding visit_from
  from_none zero e = sym e
  from_none (suc k) e = rw e

  module _ (k : ℕ) (v : Walk) (known : g (child_in b n i) w ≡ Some v) where
    pub from_last : k ≡ 0 → Some v ≡ visit_from g b n k i w
    unfolding visit_from
    from_last e = rw e (sym known)

    -- the range ends it
    pub from_stop : 0 < k → passed v (range_in b n i) ≡ None → None ≡ visit_from g b n k i w
    unfolding visit_from
    from_stop h p = let s : k ≡ suc (k - 1) = omega arith in sym (rw s (rw (known, p)))

    pub from_next : 0 < k → (x : Walk) → passed v (range_in b n i) ≡ Some x → visit_from g b n (k - 1) (i + 1) x ≡ visit_from g b n k i w
    unfolding visit_from
    from_next h x p = let s : k ≡ suc (k - 1) = omega arith in sym (rw s (let e : suc (k - 1) - 1 ≡ k - 1 = omega arith in rw (known, p, add-one i, e)))

-- a walk that came through child i and the range behind it
pub record Through (g : ℕ → Walk → Option Walk) (b : List ℕ) (n k i : ℕ) (w w' : Walk) : Type 0 where
  pub child : Walk
  pub below : g (child_in b n i) w ≡ Some child
  pub next : Walk
  pub pass : passed child (range_in b n i) ≡ Some next
  pub rest : visit_from g b n k (suc i) next ≡ Some w'

pub and_then-some : {A B : Type 0} (f : A → Option B) (o : Option A) (y : B) → option_and_then f o ≡ Some y → (x : A) × ((o ≡ Some x) × (f x ≡ Some y))
and_then-some f None y e = absurd (none-some y e)
and_then-some f (Some x) y e = (x, (refl, e))

pub through : (g : ℕ → Walk → Option Walk) (b : List ℕ) (n k i : ℕ) (w w' : Walk) → visit_from g b n (suc k) i w ≡ Some w' → Through g b n k i w w'
unfolding visit_from
through g b n k i w w' e =
    let v = and_then-some (λ x. option_and_then (λ y. visit_from g b n k (suc i) y) (passed x (range_in b n i))) (g (child_in b n i) w) w' e in
    let p = and_then-some (λ y. visit_from g b n k (suc i) y) (passed v.0 (range_in b n i)) w' v.1.1 in
    record { child = v.0; below = v.1.0; next = p.0; pass = p.1.0; rest = p.1.1 }

-- the height below is 0 exactly where one level is left
pub leaf-level : (l : ℕ) → 0 < l → eqb l 1 ≡ eqb (l - 1) 0
leaf-level l h = both_ways (eqb l 1) (eqb (l - 1) 0) (λ e. let x : l ≡ 1 = eqb-true _ _ e in eq-eqb (l - 1) 0 (omega arith)) (λ e. let x : l - 1 ≡ 0 = eqb-true _ _ e in eq-eqb l 1 (omega arith))

module _ (b : List ℕ) (l least n : ℕ) (w : Walk) where
  pub visit-bottom : l ≡ 0 → Some w ≡ visit b l least n w
  unfolding visit
  visit-bottom e = rw e

  pub visit-not : 0 < l → enters b (eqb l 1) least n w ≡ false → None ≡ visit b l least n w
  unfolding visit
  visit-not h e =
      let s : l ≡ suc (l - 1) = omega arith in
      let d : enters b (eqb (l - 1) 0) least n w ≡ false = ap (λ (x : Bool). enters b x least n w) (sym (leaf-level l h)) ∙ e in
      sym (ap (λ (x : ℕ). visit b x least n w) s ∙ rw d)

  pub visit-in : 0 < l → enters b (eqb l 1) least n w ≡ true → visit_from (visit b (l - 1) 2) b n (count_in b n) 0 (met w n) ≡ visit b l least n w
  unfolding visit
  visit-in h e =
      let s : l ≡ suc (l - 1) = omega arith in
      let d : enters b (eqb (l - 1) 0) least n w ≡ true = ap (λ (x : Bool). enters b x least n w) (sym (leaf-level l h)) ∙ e in
      sym (ap (λ (x : ℕ). visit b x least n w) s ∙ rw d)

-- The height

module _ (b : List ℕ) (k n : ℕ) where
  pub height-bottom : k ≡ 0 → 0 ≡ height_from b k n
  unfolding height_from
  height-bottom e = rw e

  module _ (h : 0 < k) where
    s : k ≡ suc (k - 1)
    s = omega arith

    pub height-outside : 63 < n → 1 ≡ height_from b k n
    unfolding height_from
    height-outside u = sym (ap (λ (x : ℕ). height_from b x n) s ∙ rw (lt-ltb 63 n u))

    pub height-leaf : n ≤ 63 → leaf_in b n ≡ 1 → 1 ≡ height_from b k n
    unfolding height_from
    height-leaf u e = sym (ap (λ (x : ℕ). height_from b x n) s ∙ rw (le-ltb 63 n u, eq-eqb (leaf_in b n) 1 e))

    pub height-deeper : n ≤ 63 → (leaf_in b n ≡ 1 → ⊥) → height_from b (k - 1) (child_in b n 0) + 1 ≡ height_from b k n
    unfolding height_from
    height-deeper u e = sym (ap (λ (x : ℕ). height_from b x n) s ∙ rw (le-ltb 63 n u, ne_eqb (leaf_in b n) 1 e))

-- Nodes that were not met

pub free-zero : (b : List ℕ) (seen : List Bool) (n : ℕ) → get_or seen n false ≡ false → (v : Bool) → zeros_in b n 0 24 ≡ v → free_fits b seen n ≡ v
unfolding free_fits
free-zero b seen n e v z = rw e z

pub free-met : (b : List ℕ) (seen : List Bool) (n : ℕ) → get_or seen n false ≡ true → free_fits b seen n ≡ true
unfolding free_fits
free-met b seen n e = rw e

pub kids-le : (leaf : Bool) (k : ℕ) → kids leaf k ≤ k + 1
unfolding kids
kids-le true k = omega arith
kids-le false k = omega arith

pub height-empty : (b : List ℕ) → root_in b ≡ 64 → 0 ≡ height_of b
unfolding height_of
height-empty b e = rw (eq-eqb (root_in b) 64 e)

pub height-some : (b : List ℕ) (n : ℕ) → n ≡ root_in b → (n ≡ 64 → ⊥) → height_from b 4 n ≡ height_of b
unfolding height_of
height-some b n e h = rw e (rw (ne_eqb (root_in b) 64 (λ d. h (e ∙ d))))

pub lawful-not : (b : List ℕ) → None ≡ walked b → false ≡ lawful b
unfolding lawful came_through
lawful-not b e = rw (← e)

pub lawful-rest : (b : List ℕ) (w : Walk) → Some w ≡ walked b → all_from 64 0 (free_fits b w.seen) ≡ lawful b
unfolding lawful came_through
lawful-rest b w e = rw (← e)

pub walk_is : (b : List ℕ) (h n : ℕ) (w : Option Walk) → h ≡ height_of b → n ≡ root_in b → w ≡ visit b h 1 n start → w ≡ walked b
unfolding walked
walk_is b h n w e d f = f ∙ rw (e, d)
