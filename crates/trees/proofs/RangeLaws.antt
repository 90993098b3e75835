-- Ranges that ascend, in parts of a list.
use mathlib.Core.Path.{◌≡◌, refl, sym, ap}
use mathlib.Core.Bool.{Bool, true, false, not, ◌||◌}
use mathlib.Core.List.{List, [], ◌∷◌, ◌++◌}
use Prim.Native.Nat.{ℕ, ◌+◌, ◌-◌, ◌≤◌, ◌<◌}
use native.Mathlib.Omega.{arith}
use lib.Dec.{leb, ltb, eqb}
use borrow.Author.Tests.{ltb-true, ltb-false, leb-true, lt-ltb, le-ltb, le-leb, lt-leb, eq-eqb, ne_eqb, not-true, not-false}
use Rattle.words.proofs.Cases.{by-test, and-true, true-false, or-false}
use Rattle.words.proofs.SearchLaws.{all_from_at}
use Rattle.runs.specs.PageWords.{allowed_rights}
use Rattle.runs.specs.Runs.{frame_by}
use Rattle.trees.specs.declared.Range.{Range}
use Rattle.trees.specs.Ranges.{covers, page_value, look_list, insert_list, remove_list, overlapping, overlaps, frames_fit, misplaced, proper, held}
use Rattle.trees.specs.Inner.Spans.{Between, none, one, Proper, none_yet, and_one}

-- Between

pub between_le : {lo : ℕ} {xs : List Range} {hi : ℕ} → Between lo xs hi → lo ≤ hi
between_le (none h) = h
between_le (one a b m) = let h = between_le m in omega arith

pub lower : {lo : ℕ} {xs : List Range} {hi : ℕ} (k : ℕ) → k ≤ lo → Between lo xs hi → Between k xs hi
lower {hi = hi} k h (none a) = let g : k ≤ hi = omega arith in none g
lower k h (one {r = r} a b m) = let g : k ≤ r.base = omega arith in one g b m

pub higher : {lo : ℕ} {xs : List Range} {hi : ℕ} (k : ℕ) → hi ≤ k → Between lo xs hi → Between lo xs k
higher {lo} k h (none a) = let g : lo ≤ k = omega arith in none g
higher k h (one a b m) = one a b (higher k h m)

-- the ranges before r, r, and the ranges behind it
pub record Around (lo : ℕ) (xs : List Range) (r : Range) (ys : List Range) (hi : ℕ) : Type 0 where
  pub left : Between lo xs r.base
  pub some : r.base < r.limit
  pub right : Between r.limit ys hi

pub around : (lo : ℕ) (xs : List Range) (r : Range) (ys : List Range) (hi : ℕ) → Between lo (xs ++ r ∷ ys) hi → Around lo xs r ys hi
around lo [] r ys hi (one a b m) = record { left = none a; some = b; right = m }
around lo (x ∷ xs) r ys hi (one a b m) = let q = around x.limit xs r ys hi m in record { left = one a b q.left; some = q.some; right = q.right }

pub together : (lo : ℕ) (xs : List Range) (r : Range) (ys : List Range) (hi : ℕ) → Around lo xs r ys hi → Between lo (xs ++ r ∷ ys) hi
together lo xs r ys hi q = go lo xs q.left
  where
    go : (l : ℕ) (zs : List Range) → Between l zs r.base → Between l (zs ++ r ∷ ys) hi
    go l [] (none a) = one a q.some q.right
    go l (z ∷ zs) (one a b m) = one a b (go z.limit zs m)

-- Lookup in a list

pub not-covered-low : (r : Range) (p : ℕ) → p < r.base → covers r p ≡ false
unfolding covers
not-covered-low r p h = rw (lt-leb r.base p h)

pub not-covered-high : (r : Range) (p : ℕ) → r.limit ≤ p → covers r p ≡ false
unfolding covers
not-covered-high r p h = by-test (leb r.base p) (λ e. rw (e, le-ltb p r.limit h)) (λ e. rw e)

pub covered : (r : Range) (p : ℕ) → r.base ≤ p → p < r.limit → covers r p ≡ true
unfolding covers
covered r p h k = rw (le-leb r.base p h, lt-ltb p r.limit k)

pub page-in : (r : Range) (p : ℕ) → covers r p ≡ true → (r.base ≤ p) × (p < r.limit)
unfolding covers
page-in r p t = let a = and-true (leb r.base p) (ltb p r.limit) t in (leb-true _ _ a.0, ltb-true _ _ a.1)

pub by-limit : (r : Range) (p : ℕ) → r.base ≤ p → ltb p r.limit ≡ covers r p
unfolding covers
by-limit r p h = rw (le-leb r.base p h)

pub look-high : {lo : ℕ} {xs : List Range} {hi : ℕ} (p : ℕ) → hi ≤ p → Between lo xs hi → look_list xs p ≡ 65536
unfolding look_list
look-high p h (none a) = refl
look-high p h (one {r = r} a b m) = let l = between_le m in rw (not-covered-high r p (omega arith)) (look-high p h m)

-- What a proper range is

pub record IsProper (r : Range) : Type 0 where
  pub allowed : allowed_rights r.rights ≡ true
  pub pages : r.base + 8 ≤ r.limit
  pub top : r.limit ≤ 1024
  pub frames : frames_fit r ≡ true

pub is-proper : (r : Range) → proper r ≡ true → IsProper r
unfolding proper misplaced
is-proper r e =
    let x = and-true (allowed_rights r.rights) (not (misplaced r)) e in
    let y = or-false (ltb r.limit (r.base + 8)) (ltb 1024 r.limit || not (frames_fit r)) (not-true (misplaced r) x.1) in
    let z = or-false (ltb 1024 r.limit) (not (frames_fit r)) y.1 in
    record { allowed = x.0; pages = ltb-false _ _ y.0; top = ltb-false _ _ z.0; frames = not-false (frames_fit r) z.1 }

module _ (r : Range) where
  pub past-misplaced : 1024 < r.limit → false ≡ not (misplaced r)
  unfolding misplaced
  past-misplaced h = by-test (ltb r.limit (r.base + 8)) (λ e. rw e) (λ e. rw (e, lt-ltb 1024 r.limit h))

  pub short-misplaced : r.limit < r.base + 8 → false ≡ not (misplaced r)
  unfolding misplaced
  short-misplaced h = rw (lt-ltb r.limit (r.base + 8) h)

  pub placed-frames : r.base + 8 ≤ r.limit → r.limit ≤ 1024 → frames_fit r ≡ not (misplaced r)
  unfolding misplaced
  placed-frames p t = rw (le-ltb r.limit (r.base + 8) p, le-ltb 1024 r.limit t) (sym (not-not (frames_fit r)))
    where
      not-not : (v : Bool) → not (not v) ≡ v
      not-not true = refl
      not-not false = refl

not-misplaced : (r : Range) → r.base + 8 ≤ r.limit → r.limit ≤ 1024 → frames_fit r ≡ true → misplaced r ≡ false
unfolding misplaced
not-misplaced r p t f = rw (le-ltb r.limit (r.base + 8) p, le-ltb 1024 r.limit t, f)

pub proper-is : (r : Range) → IsProper r → proper r ≡ true
unfolding proper
proper-is r q = rw (q.allowed, not-misplaced r q.pages q.top q.frames)

pub proper-some : (r : Range) → proper r ≡ true → r.base + 8 ≤ r.limit
proper-some r e = (is-proper r e).pages

-- Insertion into a list

pub insert-left : (r : Range) (xs : List Range) (q : Range) (ys : List Range) → r.base < q.base → insert_list r (xs ++ q ∷ ys) ≡ insert_list r xs ++ q ∷ ys
unfolding insert_list
insert-left r [] q ys h = rw (lt-ltb r.base q.base h)
insert-left r (x ∷ xs) q ys h =
    by-test (ltb r.base x.base) (λ e. rw e) (λ e. rw e (ap (λ (l : List Range). x ∷ l) (insert-left r xs q ys h)))

pub insert-right : {lo : ℕ} (r : Range) (xs : List Range) (q : Range) (ys : List Range) → Between lo xs q.base → q.base ≤ r.base → insert_list r (xs ++ q ∷ ys) ≡ xs ++ q ∷ insert_list r ys
unfolding insert_list
insert-right r [] q ys m h = rw (le-ltb r.base q.base h)
insert-right r (x ∷ xs) q ys (one a b m) h =
    let k = between_le m in
    let g : x.base ≤ r.base = omega arith in
    rw (le-ltb r.base x.base g) (ap (λ (l : List Range). x ∷ l) (insert-right r xs q ys m h))

-- two ranges that do not overlap
pub apart : (r q : Range) → overlapping r q ≡ false → (r.base < q.limit → r.limit ≤ q.base) × (q.base < r.limit → q.limit ≤ r.base)
unfolding overlapping
apart r q f = (
  λ u. ltb-false _ _ (rw (lt-ltb r.base q.limit u) at f),
  λ u. by-test (ltb r.base q.limit) (λ v. true-false (ltb q.base r.limit) (lt-ltb _ _ u) (rw v at f)) (λ v. ltb-false _ _ v),
)

-- a range that overlaps none keeps the ranges ascending
pub insert-between : {lo : ℕ} {xs : List Range} {hi : ℕ} (r : Range) → r.base < r.limit → lo ≤ r.base → r.limit ≤ hi → overlaps r xs ≡ false → Between lo xs hi → Between lo (insert_list r xs) hi
unfolding insert_list overlaps
insert-between r s l h o (none a) = one l s (none h)
insert-between {lo} {hi = hi} r s l h o (one {r = q} {rs = qs} a b m) =
    let d = or-false (overlapping r q) (overlaps r qs) o in
    let t = apart r q d.0 in
    by-test (ltb r.base q.base)
    (λ e. let k : r.base < q.base = ltb-true _ _ e in let g : r.limit ≤ q.base = t.0 (omega arith) in rw e (one l s (one g b m)))
    (λ e. let k : q.base ≤ r.base = ltb-false _ _ e in let g : q.limit ≤ r.base = t.1 (omega arith) in rw e (one a b (insert-between r s g h d.1 m)))

-- Removal from a list

pub remove-here : (b : ℕ) (q : Range) (ys : List Range) (l : ℕ) (xs : List Range) → Between l xs q.base → q.base ≡ b → remove_list b (xs ++ q ∷ ys) ≡ xs ++ ys
unfolding remove_list
remove-here b q ys l [] m e = rw (eq-eqb q.base b e)
remove-here b q ys l (x ∷ xs) (one a s m) e =
    let k = between_le m in
    rw (ne_eqb x.base b (λ f. omega arith)) (ap (λ (l : List Range). x ∷ l) (remove-here b q ys x.limit xs m e))

pub remove-between : {lo : ℕ} {xs : List Range} {hi : ℕ} (b : ℕ) → Between lo xs hi → Between lo (remove_list b xs) hi
unfolding remove_list
remove-between b (none a) = none a
remove-between b (one {r = r} {rs = rs} a s m) =
    by-test (eqb r.base b) (λ e. rw e (lower _ (omega arith) m)) (λ e. rw e (one a s (remove-between b m)))

-- Proper ranges

pub proper-head : {r : Range} {rs : List Range} → Proper (r ∷ rs) → (proper r ≡ true) × Proper rs
proper-head (and_one e p) = (e, p)

pub proper-append : {xs ys : List Range} → Proper xs → Proper ys → Proper (xs ++ ys)
proper-append none_yet q = q
proper-append (and_one e p) q = and_one e (proper-append p q)

pub proper-left : (xs ys : List Range) → Proper (xs ++ ys) → Proper xs
proper-left [] ys q = none_yet
proper-left (x ∷ xs) ys (and_one e q) = and_one e (proper-left xs ys q)

pub proper-right : (xs ys : List Range) → Proper (xs ++ ys) → Proper ys
proper-right [] ys q = q
proper-right (x ∷ xs) ys (and_one e q) = proper-right xs ys q

pub insert-proper : {xs : List Range} (r : Range) → proper r ≡ true → Proper xs → Proper (insert_list r xs)
unfolding insert_list
insert-proper r e none_yet = and_one e none_yet
insert-proper r e (and_one {r = q} {rs = qs} d p) = by-test (ltb r.base q.base) (λ t. rw t (and_one e (and_one d p))) (λ t. rw t (and_one d (insert-proper r e p)))

pub remove-proper : {xs : List Range} (b : ℕ) → Proper xs → Proper (remove_list b xs)
unfolding remove_list
remove-proper b none_yet = none_yet
remove-proper b (and_one {r = q} {rs = qs} d p) = by-test (eqb q.base b) (λ t. rw t p) (λ t. rw t (and_one d (remove-proper b p)))

-- every frame of a proper range is below 4,096
module _ (r : Range) (p : ℕ) (is : proper r ≡ true) (has : covers r p ≡ true) where
  frame_small : frame_by r.offset p < 4096
  unfolding frames_fit
  frame_small =
      let k = page-in r p has in let lo = k.0 in let hi = k.1 in
      ltb-true _ _ (all_from_at (r.limit - r.base) r.base (λ x. ltb (frame_by r.offset x) 4096) (is-proper r is).frames p lo (omega arith))

  value-small : page_value r p < 32768
  unfolding page_value allowed_rights
  value-small =
      let a = frame_small in
      let c : r.rights ≤ 7 = leb-true _ _ (and-true (leb r.rights 7) _ (is-proper r is).allowed).0 in
      omega arith

-- a list of proper ranges gives 65,536 exactly where none has the page
pub look-held : {xs : List Range} (p : ℕ) → Proper xs → held xs p ≡ true → look_list xs p < 32768
unfolding held look_list
look-held p none_yet t = true-false false t refl
look-held p (and_one {r = r} {rs = rs} e q) t =
    by-test (covers r p) (λ c. rw c (value-small r p e c)) (λ c. rw c (look-held p q (rw c at t)))

pub look-not-held : (xs : List Range) (p : ℕ) → held xs p ≡ false → look_list xs p ≡ 65536
unfolding held look_list
look-not-held [] p t = refl
look-not-held (r ∷ rs) p t = let o = or-false (covers r p) (held rs p) t in rw o.0 (look-not-held rs p o.1)
