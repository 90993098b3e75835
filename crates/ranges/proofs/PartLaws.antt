-- A part of a list that is written by itself.
use Rattle.std.proofs.Common.{◌≡◌, Bool, List, ℕ, ◌+◌, ◌-◌, ◌≤◌, length, take, drop, replicate, sym, zero-le, arith}
use Rattle.std.proofs.lemmas.List.{append_assoc, drop-drop}
use Rattle.std.proofs.lemmas.Grind.{common_steps}
use Rattle.std.proofs.lemmas.List.Edits.{sets, sets-eq}
use Rattle.std.proofs.lemmas.Slice.Eq.{slice_eq-Decides}
use Rattle.std.proofs.lemmas.Bool.Decides.{Decides-eqb}
use borrow.Rule.Slice.PartMut.{put_mid}
use lib.Dec.{eqb}
use lib.Pointwise.{pointwise}
use Rattle.words.proofs.Cases.{true-false}
use Rattle.words.specs.Inner.{ChangedTo}
use Rattle.words.specs.Tables.{part}
use Rattle.runs.specs.Inner.{Decides, zero_from}

-- where the words of a part are each changed, and the part put back, they alone are changed
pub changed-mid : (f : ℕ → ℕ) (xs ys : List ℕ) (a n k : ℕ) → a + n ≤ length xs → ChangedTo (λ q w. f w) (take (a + n - a) (drop a xs)) 0 k ys → length (take (a + n - a) (drop a xs)) ≤ k → length ys ≡ length (take (a + n - a) (drop a xs))
    → ChangedTo (λ q w. f w) xs a (a + n) (put_mid a (a + n - a) xs ys)
changed-mid f xs ys a n k h c to l =
    let long : length (take (a + n - a) (drop a xs)) ≡ n = grind (arith, common_steps) in
    record {
      inside = λ g lo hi. let s = c.inside (g - a) zero-le (omega arith) in grind (arith, common_steps);
      below = λ g lt. grind (arith, common_steps);
      above = λ g ge. grind (arith, common_steps);
    }

-- four words that are written as one part
pub put-entry : (rs es : List ℕ) (at : ℕ) → at + length es ≤ length rs → (ys : List ℕ) → ys ≡ es → length es ≡ 4 → put_mid at (at + 4 - at) rs ys ≡ sets rs at es
put-entry rs es at h ys e l =
    let n : at + 4 - at ≡ 4 = omega arith in
    rw (e, n, sets-eq es rs at h, l, drop-drop 4 at rs) (sym (append_assoc (take at rs) es (drop (at + 4) rs)))

-- words that are compared as one part
pub same-part : (rs es : List ℕ) (at : ℕ) (r : Bool) (xs : List ℕ) → r ≡ pointwise eqb (take (at + 4 - at) (drop at rs)) xs → xs ≡ es → Decides r (part at 4 rs ≡ es)
unfolding part
same-part rs es at r xs e x =
    let n : at + 4 - at ≡ 4 = omega arith in
    let d = slice_eq-Decides Decides-eqb (take 4 (drop at rs)) es r (rw (n, x) at e) in
    record { yes = d.0; no = λ f p. true-false r (d.1 p) f }

-- zeros from a place on, written as one part
pub zeros-mid : (rs ys : List ℕ) (at : ℕ) → at ≤ length rs → ys ≡ replicate (length (take (length rs - at) (drop at rs))) 0 → put_mid at (length rs - at) rs ys ≡ zero_from rs at
unfolding zero_from
zeros-mid rs ys at h e = rw e (grind (arith, common_steps))
