-- A bit that is set or cleared leaves the other bits, and a word of w bits stays one.
use mathlib.Core.Path.{◌≡◌, ap, ◌∙◌, sym}
use mathlib.Core.Bool.{true, false}
use Prim.Native.Nat.{ℕ, suc, ◌+◌, ◌-◌, ◌*◌, ◌/◌, ◌%◌, ◌^◌, ◌<◌, ◌≤◌}
use native.Mathlib.Nat.{add-div_right, add-mul-div_left, add-mul-mod_self_left, div-div-eq-div-mul, div-eq_of_lt, div-lt_iff_lt-mul, pow-suc, pow-le-pow_right, mul_comm, one-mul}
use native.Mathlib.Decide.{dec_lt}
use native.Mathlib.Omega.{arith}
use lib.Dec.{eqb}
use lib.Pow.{pow_pos, pow-add}
use borrow.Author.Tests.{eqb-true, eqb-false, eq-eqb, ne_eqb}
use Rattle.words.specs.Bits.{has_bit}
use Rattle.words.proofs.Cases.{by-dec}
use Rattle.control.specs.Control.{is_open}

-- 2 to the power s, and the factor that is left of a larger power
above_power : (s d : ℕ) → 2 ^ (s + suc d) ≡ 2 ^ s * (2 * 2 ^ d)
above_power s d = pow-add 2 s (suc d) ∙ ap (λ (x : ℕ). 2 ^ s * x) (pow-suc 2 d ∙ mul_comm (2 ^ d) 2)

at-bit : (m s : ℕ) → (m + 2 ^ s) / 2 ^ s ≡ m / 2 ^ s + 1
at-bit m s = add-div_right m (pow_pos s)

quotient : (m s d : ℕ) → m / 2 ^ (s + suc d) ≡ m / 2 ^ s / 2 / 2 ^ d
quotient m s d = ap (λ (x : ℕ). m / x) (above_power s d) ∙ sym (div-div-eq-div-mul m (2 ^ s) (2 * 2 ^ d)) ∙ sym (div-div-eq-div-mul (m / 2 ^ s) 2 (2 ^ d))

-- a bit that is not set carries nothing to those above it
above-bit : (m s d : ℕ) → m / 2 ^ s % 2 ≡ 0 → (m + 2 ^ s) / 2 ^ (s + suc d) ≡ m / 2 ^ (s + suc d)
above-bit m s d h =
    let e : (m / 2 ^ s + 1) / 2 ≡ m / 2 ^ s / 2 = omega arith in
    quotient (m + 2 ^ s) s d ∙ ap (λ (x : ℕ). x / 2 / 2 ^ d) (at-bit m s) ∙ ap (λ (x : ℕ). x / 2 ^ d) e ∙ sym (quotient m s d)

below-bit : (m t d : ℕ) → (m + 2 ^ (t + suc d)) / 2 ^ t % 2 ≡ m / 2 ^ t % 2
below-bit m t d =
    ap (λ (x : ℕ). (m + x) / 2 ^ t % 2) (above_power t d) ∙ ap (λ (x : ℕ). x % 2) (add-mul-div_left m (2 * 2 ^ d) (pow_pos t))
    ∙ add-mul-mod_self_left (m / 2 ^ t) 2 (2 ^ d)

other-bit : (m s t : ℕ) → m / 2 ^ s % 2 ≡ 0 → (t ≡ s → ⊥) → (m + 2 ^ s) / 2 ^ t % 2 ≡ m / 2 ^ t % 2
other-bit m s t h ne =
    by-dec (dec_lt s t)
    (λ lt. let e : s + suc (t - suc s) ≡ t = omega arith in rw e at (ap (λ (x : ℕ). x % 2) (above-bit m s (t - suc s) h)))
    (λ ge. let e : t + suc (s - suc t) ≡ s = omega arith in rw e at (below-bit m t (s - suc t)))

module _ (m s : ℕ) (shut : is_open m s ≡ false) where
  clear : m / 2 ^ s % 2 ≡ 0
  unfolding is_open has_bit
  clear = let n : (m / 2 ^ s % 2 ≡ 1 → ⊥) = eqb-false _ _ shut in omega arith

  pub set_here : is_open (m + 2 ^ s) s ≡ true
  unfolding is_open has_bit
  set_here = eq-eqb _ _ (ap (λ (x : ℕ). x % 2) (at-bit m s) ∙ let z = clear in omega arith)

  pub set_other : (t : ℕ) → (t ≡ s → ⊥) → is_open (m + 2 ^ s) t ≡ is_open m t
  unfolding is_open has_bit
  set_other t ne = ap (λ (x : ℕ). eqb x 1) (other-bit m s t clear ne)

  pub set-fits : (w : ℕ) → s < w → m < 2 ^ w → m + 2 ^ s < 2 ^ w
  set-fits w lt h =
      let e : s + suc (w - suc s) ≡ w = omega arith in
      let q : (m + 2 ^ s) / 2 ^ w ≡ m / 2 ^ w = rw e at (above-bit m s (w - suc s) clear) in
      let z : (m + 2 ^ s) / 2 ^ w < 1 = omega (arith, q, div-eq_of_lt h) in
      let r : m + 2 ^ s < 1 * 2 ^ w = (div-lt_iff_lt-mul (pow_pos w)).0 z in
      rw one-mul at r

module _ (m s : ℕ) (stands_open : is_open m s ≡ true) where
  pub bit_below : 2 ^ s ≤ m
  unfolding is_open has_bit
  bit_below =
      let e : m / 2 ^ s % 2 ≡ 1 = eqb-true _ _ stands_open in
      by-dec (dec_lt m (2 ^ s)) (λ lt. let z : m / 2 ^ s ≡ 0 = div-eq_of_lt lt in absurd (omega arith)) (λ ge. omega arith)

  back : m - 2 ^ s + 2 ^ s ≡ m
  back = let h = bit_below in omega arith

  -- without its bit the mask is one in which the bit is not set
  pub cleared-here : is_open (m - 2 ^ s) s ≡ false
  unfolding is_open has_bit
  cleared-here =
      let e : m / 2 ^ s % 2 ≡ 1 = eqb-true _ _ stands_open in
      let q : m / 2 ^ s ≡ (m - 2 ^ s) / 2 ^ s + 1 = sym (ap (λ (x : ℕ). x / 2 ^ s) back) ∙ at-bit (m - 2 ^ s) s in
      ne_eqb ((m - 2 ^ s) / 2 ^ s % 2) 1 (λ x. omega arith)

  pub cleared-other : (t : ℕ) → (t ≡ s → ⊥) → is_open (m - 2 ^ s) t ≡ is_open m t
  cleared-other t ne = sym (set_other (m - 2 ^ s) s cleared-here t ne) ∙ ap (λ (x : ℕ). is_open x t) back

-- the bits of the four spaces
pub bit-size : (s : ℕ) → s ≤ 3 → (1 ≤ 2 ^ s) × (2 ^ s ≤ 8)
bit-size s h = (pow_pos s, pow-le-pow_right (omega arith) h)
