-- The bits of a number, at any place: a number made of its bits, and the bits of a number so made.
use mathlib.Core.Path.{◌≡◌, refl, ap, ◌∙◌, sym, subst}
use mathlib.Core.Bool.{Bool, true, false, ◌||◌}
use mathlib.Core.List.{List, [], ◌∷◌}
use Prim.Native.Nat.{ℕ, zero, suc, ◌+◌, ◌-◌, ◌*◌, ◌/◌, ◌%◌, ◌^◌, ◌<◌}
use native.Mathlib.Nat.{add-zero, add_comm, mul_comm, mul_assoc, mod-one, pow-succ', div-div-eq-div-mul, div-eq_of_lt, div-lt_iff_lt-mul, lt_of_lt_of_le, zero-div, add-div_right, add-mul-div_right}
use native.Mathlib.Decide.{dec_lt, ℕ_discrete}
use native.Mathlib.Omega.{arith}
use lib.Dec.{eqb}
use lib.ListN.{length, get_or}
use lib.Pow.{pow_pos, pow_mono, pow-add, shr-shr, high, mod-pow-add}
use borrow.Author.Tests.{eq-eqb, ne_eqb, eqb-true, eqb-false}
use Rattle.words.specs.Bits.{has_bit}
use Rattle.words.specs.Counts.{one-if}
use Rattle.words.specs.Searches.{any_from}
use Rattle.words.specs.Tables.{tab_from}
use Rattle.words.proofs.Cases.{by-test, by-dec, true-false, or-none}
use Rattle.words.proofs.CountLaws.{one-if-le}
use Rattle.words.proofs.PowerLaws.{double}
use Rattle.words.proofs.SearchLaws.{any_none}

-- a bit as a number
bit_is : (n i : ℕ) → one-if (has_bit n i) ≡ n / 2 ^ i % 2
unfolding has_bit one-if
bit_is n i = by-test (eqb (n / 2 ^ i % 2) 1) (λ t. let e = eqb-true _ _ t in rw t (sym e)) (λ f. let e : (n / 2 ^ i % 2 ≡ 1 → ⊥) = eqb-false _ _ f in rw f (omega arith))

-- the number that has these bits, the lowest first
unfoldable pub number : List Bool → ℕ
number [] = 0
number (b ∷ bs) = one-if b + 2 * number bs

pub number_lt : (bs : List Bool) → number bs < 2 ^ length bs
unfolding number
number_lt [] = omega arith
number_lt (b ∷ bs) = let h = number_lt bs in rw (pow-succ' 2 (length bs)) (omega (arith, one-if-le b))

-- the bits of e at n places from i on
pub number-bits : (n i e : ℕ) → number (tab_from n i (has_bit e)) ≡ e / 2 ^ i % 2 ^ n
unfolding number tab_from
number-bits zero i e = sym (mod-one (e / 2 ^ i))
number-bits (suc n) i e =
    let more : i + 1 ≡ suc i = omega arith in
    let rest : number (tab_from n (suc i) (has_bit e)) ≡ e / 2 ^ i / 2 % 2 ^ n = number-bits n (suc i) e ∙ ap (λ (x : ℕ). e / 2 ^ x % 2 ^ n) (sym more) ∙ ap (λ (x : ℕ). x % 2 ^ n) (sym (shr-shr e i 1)) in
    let split : e / 2 ^ i % 2 ^ (n + 1) ≡ (e / 2 ^ i / 2 % 2 ^ n) * 2 + e / 2 ^ i % 2 = mod-pow-add (e / 2 ^ i) n 1 in
    let up : n + 1 ≡ suc n = omega arith in
    omega (arith, bit_is e i, rest, split, ap (λ (x : ℕ). e / 2 ^ i % 2 ^ x) up)

first_bit : (b : Bool) (m : ℕ) → has_bit (one-if b + 2 * m) 0 ≡ b
unfolding has_bit one-if
first_bit true m = eq-eqb ((1 + 2 * m) / 1 % 2) 1 (omega arith)
first_bit false m = ne_eqb ((0 + 2 * m) / 1 % 2) 1 (omega arith)

next_bit : (b : Bool) (m i : ℕ) → has_bit (one-if b + 2 * m) (suc i) ≡ has_bit m i
unfolding has_bit one-if
next_bit b m i = ap (λ (x : ℕ). eqb (x % 2) 1) (ap (λ (x : ℕ). (one-if b + 2 * m) / x) (pow-succ' 2 i) ∙ sym (div-div-eq-div-mul (one-if b + 2 * m) 2 (2 ^ i)) ∙ ap (λ (x : ℕ). x / 2 ^ i) (half b))
  where
    half : (b : Bool) → (one-if b + 2 * m) / 2 ≡ m
    half true = omega arith
    half false = omega arith

-- a number with these bits below, and those of c above them
one_more : (b : Bool) (bs : List Bool) (c : ℕ) → number (b ∷ bs) + 2 ^ length (b ∷ bs) * c ≡ one-if b + 2 * (number bs + 2 ^ length bs * c)
unfolding number
one_more b bs c = let d : 2 ^ suc (length bs) * c ≡ 2 * (2 ^ length bs * c) = ap (λ (x : ℕ). x * c) (pow-succ' 2 (length bs)) ∙ mul_assoc 2 (2 ^ length bs) c in omega (arith, d)

pub low_bit : (bs : List Bool) (c i : ℕ) → i < length bs → has_bit (number bs + 2 ^ length bs * c) i ≡ get_or bs i false
low_bit [] c i h = absurd (omega arith)
low_bit (b ∷ bs) c zero h = ap (λ (x : ℕ). has_bit x 0) (one_more b bs c) ∙ first_bit b _
low_bit (b ∷ bs) c (suc j) h = ap (λ (x : ℕ). has_bit x (suc j)) (one_more b bs c) ∙ next_bit b _ j ∙ low_bit bs c j (omega arith)

pub high_bit : (k low c j : ℕ) → low < 2 ^ k → has_bit (low + 2 ^ k * c) (k + j) ≡ has_bit c j
unfolding has_bit
high_bit k low c j h =
    let turn : low + 2 ^ k * c ≡ c * 2 ^ k + low = ap (λ (x : ℕ). low + x) (mul_comm (2 ^ k) c) ∙ add_comm low (c * 2 ^ k) in
    let above : (low + 2 ^ k * c) / 2 ^ k ≡ c = ap (λ (x : ℕ). x / 2 ^ k) turn ∙ high c k h in
    ap (λ (x : ℕ). eqb (x % 2) 1) (sym (shr-shr (low + 2 ^ k * c) k j) ∙ ap (λ (x : ℕ). x / 2 ^ j) above)

-- no bit at or above place i
pub none_above : (m i : ℕ) → m < 2 ^ i → (n : ℕ) → any_from n i (has_bit m) ≡ false
unfolding has_bit
none_above m i h n = any_none n i (has_bit m) (λ k from to. let z : m / 2 ^ k ≡ 0 = div-eq_of_lt (lt_of_lt_of_le h (pow_mono from)) in ne_eqb (m / 2 ^ k % 2) 1 (omega arith))

-- the highest bit is clear
clear-top : (i m : ℕ) → m < 2 ^ suc i → has_bit m i ≡ false → m < 2 ^ i
unfolding has_bit
clear-top i m h c =
    let n : (m / 2 ^ i % 2 ≡ 1 → ⊥) = eqb-false _ _ c in
    let p : m < 2 * 2 ^ i = rw (pow-succ' 2 i) at h in
    let q : m / 2 ^ i < 2 = (div-lt_iff_lt-mul (pow_pos i)).1 p in
    let r : m / 2 ^ i < 1 = omega arith in
    let s : m < 1 * 2 ^ i = (div-lt_iff_lt-mul (pow_pos i)).0 r in
    omega arith

-- and a number of i + n bits without a bit from i on has i bits
pub below : (n i m : ℕ) → m < 2 ^ (i + n) → any_from n i (has_bit m) ≡ false → m < 2 ^ i
unfolding any_from
below zero i m h f = rw (add-zero i) at h
below (suc n) i m h f =
    by-test (has_bit m i)
    (λ t. true-false _ (rw (t, any_from) refl) f)
    (λ c. clear-top i m (below n (suc i) m (subst (λ (k : ℕ). m < 2 ^ k) (omega arith) h) (rw (c, any_from) at f)) c)

-- 0 has no bit
pub no-bit : (i : ℕ) → has_bit 0 i ≡ false
unfolding has_bit
no-bit i = ne_eqb (0 / 2 ^ i % 2) 1 (let z = zero-div (2 ^ i) in omega arith)

-- a bit that was clear, added
module _ (n i : ℕ) (clear : has_bit n i ≡ false) where
  even : n / 2 ^ i % 2 ≡ 0
  unfolding has_bit
  even = let e : (n / 2 ^ i % 2 ≡ 1 → ⊥) = eqb-false _ _ clear in omega arith

  from-it : (n + 2 ^ i) / 2 ^ i ≡ n / 2 ^ i + 1
  from-it = add-div_right n (pow_pos i)

  -- the bits above it see no change
  from_next : (k : ℕ) → i < k → (n + 2 ^ i) / 2 ^ k ≡ n / 2 ^ k
  from_next k h =
      let up : i + 1 + (k - (i + 1)) ≡ k = omega arith in
      let at : (m : ℕ) → m / 2 ^ k ≡ m / 2 ^ i / 2 / 2 ^ (k - (i + 1)) = λ m. ap (λ (x : ℕ). m / 2 ^ x) (sym up) ∙ sym (shr-shr m (i + 1) (k - (i + 1))) ∙ ap (λ (x : ℕ). x / 2 ^ (k - (i + 1))) (sym (shr-shr m i 1)) in
      let half : (n + 2 ^ i) / 2 ^ i / 2 ≡ n / 2 ^ i / 2 = omega (arith, even, from-it) in
      at (n + 2 ^ i) ∙ ap (λ (x : ℕ). x / 2 ^ (k - (i + 1))) half ∙ sym (at n)

  -- and from a bit below it, an even number is added
  from-lower : (k : ℕ) → k < i → (n + 2 ^ i) / 2 ^ k % 2 ≡ n / 2 ^ k % 2
  from-lower k h =
      let up : i - k - 1 + 1 + k ≡ i = omega arith in
      let size : 2 ^ i ≡ 2 ^ (i - k - 1 + 1) * 2 ^ k = ap (λ (x : ℕ). 2 ^ x) (sym up) ∙ pow-add 2 (i - k - 1 + 1) k in
      let d = double (i - k - 1) in
      let q : (n + 2 ^ i) / 2 ^ k ≡ n / 2 ^ k + 2 ^ (i - k - 1 + 1) = ap (λ (x : ℕ). (n + x) / 2 ^ k) size ∙ add-mul-div_right n (2 ^ (i - k - 1 + 1)) (pow_pos k) in
      omega arith

  pub bit_added : (k : ℕ) → has_bit (n + 2 ^ i) k ≡ (has_bit n k || eqb k i)
  unfolding has_bit
  bit_added k =
      by-dec (ℕ_discrete k i)
      (λ e. ap (has_bit (n + 2 ^ i)) e ∙ eq-eqb ((n + 2 ^ i) / 2 ^ i % 2) 1 (omega (arith, even, from-it)) ∙ sym (ap (λ (b : Bool). b || eqb k i) (ap (has_bit n) e ∙ clear) ∙ eq-eqb k i e))
      (λ ne.
      let same : (n + 2 ^ i) / 2 ^ k % 2 ≡ n / 2 ^ k % 2 = by-dec (dec_lt k i) (from-lower k) (λ ge. ap (λ (x : ℕ). x % 2) (from_next k (omega arith))) in
      ap (λ (x : ℕ). eqb x 1) same ∙ sym (or-none (has_bit n k) (eqb k i) (ne_eqb k i ne)))

  -- it fits where its place does
  pub bit-fits : (w : ℕ) → i < w → n < 2 ^ w → n + 2 ^ i < 2 ^ w
  bit-fits w h less =
      let up : w - i - 1 + 1 + i ≡ w = omega arith in
      let size : 2 ^ w ≡ 2 ^ (w - i - 1 + 1) * 2 ^ i = ap (λ (x : ℕ). 2 ^ x) (sym up) ∙ pow-add 2 (w - i - 1 + 1) i in
      let d = double (w - i - 1) in
      let below-it : n / 2 ^ i < 2 ^ (w - i - 1 + 1) = (div-lt_iff_lt-mul (pow_pos i)).1 (rw size at less) in
      let room : n / 2 ^ i + 1 < 2 ^ (w - i - 1 + 1) = omega (arith, even) in
      let then : (n + 2 ^ i) / 2 ^ i < 2 ^ (w - i - 1 + 1) = omega (arith, from-it) in
      rw size ((div-lt_iff_lt-mul (pow_pos i)).0 then)
