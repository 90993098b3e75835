-- The entry of a mapped page as a sum, its bits, and what it gives when it is read.
use mathlib.Core.Path.{◌≡◌, refl, ap, ◌∙◌, subst}
use mathlib.Core.Bool.{Bool}
use Prim.Native.Nat.{ℕ, ◌+◌, ◌-◌, ◌*◌, ◌/◌, ◌%◌, ◌^◌, ◌<◌, ◌≤◌}
use native.Mathlib.Omega.{arith}
use lib.Dec.{ltb}
use borrow.Author.Tests.{ltb-true, ltb-false}
use Rattle.words.specs.Bits.{has_bit, bit_at}
use Rattle.words.specs.Counts.{one-if}
use Rattle.words.specs.Tables.{tab_from}
use Rattle.words.proofs.BitLaws.{number, number-bits, number_lt, low_bit, high_bit}
use Rattle.words.proofs.CountLaws.{one-if-le}
use Rattle.words.proofs.Cases.{by-test}
use Rattle.sv39.specs.Entries.{leaf, rights_of, frame_of}
use Rattle.sv39.specs.Statements.{flag_bits, leaf_bit}

-- rights of an entry stand from bit 1 on
pub rights-from : (e : ℕ) → rights_of e ≡ e / 2 % 8
unfolding rights_of bit_at number tab_from
rights-from e =
    let n : one-if (has_bit e 1) + 2 * (one-if (has_bit e 2) + 2 * (one-if (has_bit e 3) + 2 * 0)) ≡ e / 2 % 8 = number-bits 3 1 e in
    omega (arith, n)

pub leaf-sum : (b : Bool) (r f : ℕ) → r ≤ 7 → leaf b r f ≡ 193 + 2 * r + 256 * one-if b + 1024 * f
unfolding leaf bit_at one-if number tab_from
leaf-sum b r f h =
    let n : one-if (has_bit r 0) + 2 * (one-if (has_bit r 1) + 2 * (one-if (has_bit r 2) + 2 * 0)) ≡ r / 1 % 8 = number-bits 3 0 r in
    omega (arith, n)

-- each bit
leaf-flags : (b : Bool) (r f : ℕ) → leaf b r f ≡ number (flag_bits b r) + 2 ^ 10 * f
unfolding leaf bit_at one-if number flag_bits
leaf-flags b r f = omega arith

pub leaf-bit : (b : Bool) (r f i : ℕ) → has_bit (leaf b r f) i ≡ leaf_bit b r f i
unfolding leaf_bit flag_bits
leaf-bit b r f i =
    ap (λ (x : ℕ). has_bit x i) (leaf-flags b r f)
    ∙ by-test (ltb i 10)
    (λ t. low_bit (flag_bits b r) f i (ltb-true i 10 t) ∙ rw (t, leaf_bit) refl)
    (λ t. let e : 10 + (i - 10) ≡ i = omega (arith, ltb-false i 10 t) in rw (t, leaf_bit) (subst (λ (k : ℕ). has_bit (number (flag_bits b r) + 2 ^ 10 * f) k ≡ has_bit f (i - 10)) e (high_bit 10 (number (flag_bits b r)) f (i - 10) (number_lt (flag_bits b r)))))

module _ (b : Bool) (r f : ℕ) (low : r ≤ 7) (fits : f ≤ 4095) where
  pub leaf-rights : rights_of (leaf b r f) ≡ r
  leaf-rights = rights-from (leaf b r f) ∙ omega (arith, leaf-sum b r f low, one-if-le b)

  pub leaf-frame : frame_of (leaf b r f) ≡ f
  unfolding frame_of
  leaf-frame = omega (arith, leaf-sum b r f low, one-if-le b)

  pub leaf-lt : leaf b r f < 2 ^ 22
  leaf-lt = omega (arith, leaf-sum b r f low, one-if-le b)
