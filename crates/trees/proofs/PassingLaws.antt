-- The numbers that pass a test, ascending: the unused nodes, of which the first is the next one taken.
use mathlib.Core.Path.{◌≡◌, refl, sym, ap, ◌∙◌}
use mathlib.Core.Bool.{Bool, true, false, cond}
use mathlib.Core.List.{List, [], ◌∷◌}
use Prim.Native.Nat.{ℕ, zero, suc, ◌+◌, ◌≤◌, ◌<◌}
use native.Mathlib.Omega.{arith}
use native.Mathlib.Decide.{dec_lt, ℕ_discrete}
use lib.Dec.{eqb}
use lib.ListN.{length, get_or, drop}
use borrow.Author.Tests.{eqb-true}
use Rattle.words.proofs.Cases.{by-test, by-dec}
use Rattle.trees.specs.Trees.{occ}
use Rattle.trees.specs.Insertion.{passing}
use Rattle.trees.specs.Inner.Places.{sum}
use Rattle.trees.proofs.PlaceLaws.{sum-ext, sum-front}

pub passing-ext : (n i : ℕ) (p q : ℕ → Bool) → ((m : ℕ) → i ≤ m → m < i + n → p m ≡ q m) → passing n i p ≡ passing n i q
unfolding passing
passing-ext zero i p q e = refl
passing-ext (suc n) i p q e = let r = passing-ext n (suc i) p q (λ m l u. e m (omega arith) (omega arith)) in rw (e i (omega arith) (omega arith), r)

-- the first one gone, the others are left
pub passing-next : (n i : ℕ) (p q : ℕ → Bool) (d : ℕ) → q (get_or (passing n i p) 0 d) ≡ false → ((m : ℕ) → i ≤ m → m < i + n → (m ≡ get_or (passing n i p) 0 d → ⊥) → q m ≡ p m) → passing n i q ≡ drop 1 (passing n i p)
unfolding passing
passing-next zero i p q d off e = refl
passing-next (suc n) i p q d off e =
    by-test (p i)
    (λ t. let o : q i ≡ false = rw t at off in
    let f : (m : ℕ) → i ≤ m → m < i + suc n → (m ≡ i → ⊥) → q m ≡ p m = rw t at e in
    rw (t, o) (passing-ext n (suc i) q p (λ m l u. f m (omega arith) (omega arith) (λ x. omega arith))))
    (λ t. let o : q (get_or (passing n (suc i) p) 0 d) ≡ false = rw t at off in
    let f : (m : ℕ) → i ≤ m → m < i + suc n → (m ≡ get_or (passing n (suc i) p) 0 d → ⊥) → q m ≡ p m = rw t at e in
    let x : q i ≡ false = by-dec (ℕ_discrete i (get_or (passing n (suc i) p) 0 d)) (λ z. rw z o) (λ z. f i (omega arith) (omega arith) z ∙ t) in
    rw (t, x) (passing-next n (suc i) p q d o (λ m l u z. f m (omega arith) (omega arith) z)))

pub passing-first : (n i x : ℕ) (p : ℕ → Bool) (d : ℕ) → i ≤ x → x < i + n → p x ≡ true → ((m : ℕ) → i ≤ m → m < x → p m ≡ false) → get_or (passing n i p) 0 d ≡ x
unfolding passing
passing-first zero i x p d lo hi is low = absurd (omega arith)
passing-first (suc n) i x p d lo hi is low =
    by-dec (ℕ_discrete i x)
    (λ e. let t : p i ≡ true = ap p e ∙ is in rw t e)
    (λ e. rw (low i (omega arith) (omega arith)) (passing-first n (suc i) x p d (omega arith) (omega arith) is (λ m l u. low m (omega arith) u)))

pub passing-none : (n i : ℕ) (p : ℕ → Bool) → ((m : ℕ) → i ≤ m → m < i + n → p m ≡ false) → passing n i p ≡ []
unfolding passing
passing-none zero i p e = refl
passing-none (suc n) i p e = rw (e i (omega arith) (omega arith)) (passing-none n (suc i) p (λ m l u. e m (omega arith) (omega arith)))

-- each of them is there once, lies from lo up to hi and passes
pub record Among (xs : List ℕ) (lo hi m : ℕ) (p : ℕ → Bool) : Type 0 where
  pub once : occ m xs ≤ 1
  pub low : 1 ≤ occ m xs → lo ≤ m
  pub high : 1 ≤ occ m xs → m < hi
  pub does : 1 ≤ occ m xs → p m ≡ true

pub passing-among : (n i m : ℕ) (p : ℕ → Bool) → Among (passing n i p) i (i + n) m p
unfolding passing occ
passing-among zero i m p = record { once = omega arith; low = λ l. absurd (omega arith); high = λ l. absurd (omega arith); does = λ l. absurd (omega arith) }
passing-among (suc n) i m p =
    let r = passing-among n (suc i) m p in
    let lo = r.low in let hi = r.high in let on = r.once in
    by-test (p i)
    (λ t. by-test (eqb i m)
    (λ e. let x : i ≡ m = eqb-true _ _ e in let z : occ m (passing n (suc i) p) ≡ 0 = none (λ l. lo l) x in
    let v : cond {A = ℕ} (eqb i m) 1 0 ≡ 1 = rw e refl in
    rw t (record { once = omega arith; low = λ l. omega arith; high = λ l. omega arith; does = λ l. ap p (sym x) ∙ t }))
    (λ e. let v : cond {A = ℕ} (eqb i m) 1 0 ≡ 0 = rw e refl in
    rw t (record { once = omega arith; low = λ l. let k = lo (omega arith) in omega arith; high = λ l. let k = hi (omega arith) in omega arith; does = λ l. r.does (omega arith) })))
    (λ t. rw t (record { once = on; low = λ l. let k = lo l in omega arith; high = λ l. let k = hi l in omega arith; does = r.does }))
  where
    none : (1 ≤ occ m (passing n (suc i) p) → suc i ≤ m) → i ≡ m → occ m (passing n (suc i) p) ≡ 0
    none f e = by-dec (dec_lt 0 (occ m (passing n (suc i) p))) (λ l. let k = f l in absurd (omega arith)) (λ l. omega arith)

-- the first k of a list
pub first-occ : (xs : List ℕ) (k m d : ℕ) → k ≤ length xs → sum k (λ j. occ m (get_or xs j d ∷ [])) ≤ occ m xs
unfolding sum occ
first-occ xs zero m d l = omega arith
first-occ [] (suc k) m d l = absurd (omega arith)
first-occ (x ∷ xs) (suc k) m d l =
    let r = first-occ xs k m d (omega arith) in let f = sum-front k (λ j. occ m (get_or (x ∷ xs) j d ∷ [])) in omega arith

-- where each of n numbers passes or has a weight
pub passing-enough : (n i : ℕ) (p : ℕ → Bool) (f : ℕ → ℕ) → ((m : ℕ) → i ≤ m → m < i + n → p m ≡ false → 1 ≤ f m) → n ≤ length (passing n i p) + sum n (λ j. f (i + j))
unfolding passing sum
passing-enough zero i p f h = omega arith
passing-enough (suc n) i p f h =
    let r = passing-enough n (suc i) p f (λ m l u. h m (omega arith) (omega arith)) in
    let s = sum-front n (λ j. f (i + j)) in
    let e = sum-ext n (λ j. f (suc i + j)) (λ j. f (i + suc j)) (λ j l. let y : suc i + j ≡ i + suc j = omega arith in ap f y) in
    let z : f (i + 0) ≡ f i = (let y : i + 0 ≡ i = omega arith in ap f y) in
    by-test (p i) (λ t. rw t (omega arith)) (λ t. let g = h i (omega arith) (omega arith) t in rw t (omega arith))
