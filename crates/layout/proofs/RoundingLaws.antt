-- Fractions to the nearest whole number, an exact half to the even one: `nearest_whole` is the one so rounded, and no other number is.
use mathlib.Core.Path.{◌≡◌, ap, ◌∙◌}
use Prim.Native.Nat.{ℕ, ◌+◌, ◌-◌, ◌*◌, ◌/◌, ◌%◌, ◌<◌, ◌≤◌}
use native.Mathlib.Nat.{div-add-mod', mod-lt, mul-le-mul_right, add-mul, one-mul}
use native.Mathlib.Decide.{dec_le, ℕ_discrete}
use native.Mathlib.Omega.{arith}
use lib.Dec.{ltb}
use borrow.Author.Tests.{ltb-true, ltb-false}
use Rattle.words.proofs.Cases.{by-test, by-dec}
use Rattle.layout.specs.Calls.{nearest_whole, full_coverage, coverage_figure}
use Rattle.layout.specs.Statements.{distance, Rounded, CoverageRounded}

next_multiple : (q m : ℕ) → (q + 1) * m ≡ q * m + m
next_multiple q m = add-mul q 1 m ∙ ap (λ (x : ℕ). q * m + x) (one-mul m)

-- no two numbers are both rounded: each would be exactly one half away, so they would be one apart, and one of them odd
no-two-rounded : (a m p q : ℕ) → 0 < m → p < q → Rounded a m p → Rounded a m q → ⊥
unfolding distance
no-two-rounded a m p q pos h x y =
    let n = next_multiple p m in
    let far : (p + 1) * m ≤ q * m = mul-le-mul_right m (omega arith) in
    let xn = x.nearest in
    let yn = y.nearest in
    let ep : p % 2 ≡ 0 = x.half-to-even (omega arith) in
    let eq : q % 2 ≡ 0 = y.half-to-even (omega arith) in
    let further : (p + 1 + 1) * m ≤ q * m = mul-le-mul_right m (omega arith) in
    let nn = next_multiple (p + 1) m in
    omega arith

one-rounded : (a m p q : ℕ) → 0 < m → Rounded a m p → Rounded a m q → p ≡ q
one-rounded a m p q pos x y =
    by-dec (dec_le (p + 1) q)
    (λ h. absurd (no-two-rounded a m p q pos (omega arith) x y))
    (λ n. by-dec (dec_le (q + 1) p) (λ h. absurd (no-two-rounded a m q p pos (omega arith) y x)) (λ k. omega arith))

module _ (a m : ℕ) (pos : 0 < m) where
  -- a / m or a / m + 1, where it is no further than the other, and even where both are as far
  pub beside-rounded : (q : ℕ) → a / m ≤ q → q ≤ a / m + 1 → (q ≡ a / m → 2 * (a % m) ≤ m) → (q ≡ a / m + 1 → m ≤ 2 * (a % m)) → (2 * (a % m) ≡ m → q % 2 ≡ 0) → Rounded a m q
  unfolding distance
  beside-rounded q low high lower upper even =
      let d = div-add-mod' a m in
      let l = mod-lt a pos in
      by-dec (ℕ_discrete q (a / m))
      (λ e. let h = lower e in let s : q * m ≡ a / m * m = ap (λ (x : ℕ). x * m) e in record { nearest = omega arith; half-to-even = λ t. even (omega arith) })
      (λ n.
      let e : q ≡ a / m + 1 = omega arith in
      let h = upper e in
      let s : q * m ≡ a / m * m + m = ap (λ (x : ℕ). x * m) e ∙ next_multiple (a / m) m in
      record { nearest = omega arith; half-to-even = λ t. even (omega arith) })

  nearest-rounded : Rounded a m (nearest_whole a m)
  unfolding nearest_whole
  nearest-rounded =
      let l = mod-lt a pos in
      by-test (ltb (a % m) (m - a % m))
      (λ t. let lt : a % m < m - a % m = ltb-true _ _ t in rw (t, nearest_whole) (beside-rounded _ (omega arith) (omega arith) (λ e. omega arith) (λ e. omega arith) (λ e. omega arith)))
      (λ f.
      let ge : m - a % m ≤ a % m = ltb-false _ _ f in
      by-test (ltb (m - a % m) (a % m))
      (λ t. let gt : m - a % m < a % m = ltb-true _ _ t in rw (f, t, nearest_whole) (beside-rounded _ (omega arith) (omega arith) (λ e. omega arith) (λ e. omega arith) (λ e. omega arith)))
      (λ g. let le : a % m ≤ m - a % m = ltb-false _ _ g in rw (f, g, nearest_whole) (beside-rounded _ (omega arith) (omega arith) (λ e. omega arith) (λ e. omega arith) (λ e. omega arith))))

  pub only-nearest : (q : ℕ) → Rounded a m q → q ≡ nearest_whole a m
  only-nearest q x = one-rounded a m q (nearest_whole a m) pos x nearest-rounded

pub coverage-rounded : CoverageRounded
unfolding CoverageRounded coverage_figure
coverage-rounded r m pos = (nearest-rounded (full_coverage * r) m pos, only-nearest (full_coverage * r) m pos)
