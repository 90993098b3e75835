-- Rows by place: one with a place taken out, and two one behind the other.
use mathlib.Core.Path.{◌≡◌, ap, ◌∙◌}
use Prim.Native.Nat.{ℕ, zero, suc, ◌+◌, ◌-◌, ◌≤◌, ◌<◌}
use native.Mathlib.Omega.{arith}
use native.Mathlib.Decide.{dec_lt}
use lib.Dec.{ltb}
use borrow.Author.Tests.{lt-ltb, le-ltb, ltb-true, ltb-false}
use Rattle.words.proofs.Cases.{by-test, by-dec}
use Rattle.trees.specs.Inner.Places.{closed, behind, sum}
use Rattle.trees.proofs.PlaceLaws.{sum-ext}

module _ {A : Type 0} (T : ℕ → A) (s : ℕ) where
  pub closed-low : (j : ℕ) → j < s → closed T s j ≡ T j
  unfolding closed
  closed-low j h = rw (lt-ltb j s h)

  pub closed-high : (j : ℕ) → s ≤ j → closed T s j ≡ T (j + 1)
  unfolding closed
  closed-high j h = rw (le-ltb j s h)

module _ {A : Type 0} (T : ℕ → A) (c : ℕ) (U : ℕ → A) where
  pub behind-low : (j : ℕ) → j < c → behind T c U j ≡ T j
  unfolding behind
  behind-low j h = rw (lt-ltb j c h)

  pub behind-high : (j : ℕ) → c ≤ j → behind T c U j ≡ U (j - c)
  unfolding behind
  behind-high j h = rw (le-ltb j c h)

pub closed-ext : {A : Type 0} (T U : ℕ → A) (s top j : ℕ) → ((i : ℕ) → i ≤ top → T i ≡ U i) → j < top → closed T s j ≡ closed U s j
unfolding closed
closed-ext T U s top j e l = by-test (ltb j s) (λ t. rw t (e j (omega arith))) (λ t. rw t (e (j + 1) (omega arith)))

pub behind-ext : {A : Type 0} (T V : ℕ → A) (c m : ℕ) (U W : ℕ → A) (j : ℕ) → c ≡ m → ((i : ℕ) → i < c → T i ≡ V i) → ((i : ℕ) → i + c ≤ j → U i ≡ W i) → behind T c U j ≡ behind V m W j
unfolding behind
behind-ext T V c m U W j is e d =
    by-test (ltb j c)
    (λ t. let x : j < c = ltb-true _ _ t in rw (t, lt-ltb j m (omega arith)) (e j x))
    (λ t. let x : c ≤ j = ltb-false _ _ t in let z : j - c ≡ j - m = omega arith in rw (t, le-ltb j m (omega arith)) (d (j - c) (omega arith) ∙ ap W z))

pub behind-map : {A B : Type 0} (f : A → B) (T : ℕ → A) (c : ℕ) (U : ℕ → A) (j : ℕ) → f (behind T c U j) ≡ behind (λ i. f (T i)) c (λ i. f (U i)) j
unfolding behind
behind-map f T c U j = by-test (ltb j c) (λ e. rw e) (λ e. rw e)

pub closed-map : {A B : Type 0} (f : A → B) (T : ℕ → A) (s j : ℕ) → f (closed T s j) ≡ closed (λ i. f (T i)) s j
unfolding closed
closed-map f T s j = by-test (ltb j s) (λ e. rw e) (λ e. rw e)

pub sum-closed : (n : ℕ) (f : ℕ → ℕ) (s : ℕ) → s ≤ n → sum n (closed f s) + f s ≡ sum (suc n) f
unfolding sum
sum-closed zero f s h = let e : s ≡ 0 = omega arith in let d = ap f e in omega arith
sum-closed (suc n) f s h =
    by-dec (dec_lt n s)
    (λ l. let e : s ≡ suc n = omega arith in let g : sum n (closed f s) ≡ sum n f = sum-ext n (closed f s) f (λ j k. closed-low f s j (omega arith)) in let c = closed-low f s n (omega arith) in let d = ap f e in omega arith)
    (λ l. let g = sum-closed n f s (omega arith) in let c = closed-high f s n (omega arith) in let e : n + 1 ≡ suc n = omega arith in let d = ap f e in omega arith)

pub sum-behind : (a c : ℕ) (f g : ℕ → ℕ) → sum (c + a) (behind f c g) ≡ sum c f + sum a g
unfolding sum
sum-behind zero c f g =
    let e : c + 0 ≡ c = omega arith in
    let d = ap (λ (x : ℕ). sum x (behind f c g)) e in
    let h = sum-ext c (behind f c g) f (λ j l. behind-low f c g j l) in
    omega arith
sum-behind (suc a) c f g =
    let h = sum-behind a c f g in
    let e : c + suc a ≡ suc (c + a) = omega arith in
    let u = ap (λ (x : ℕ). sum x (behind f c g)) e in
    let x : c + a - c ≡ a = omega arith in
    let d = behind-high f c g (c + a) (omega arith) ∙ ap g x in
    omega arith
