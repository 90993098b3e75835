-- Frames of a range: they ascend with the pages, so its first and its last frame say where all of them are.
use mathlib.Core.Path.{◌≡◌, ◌∙◌, sym}
use mathlib.Core.Bool.{false}
use Prim.Native.Nat.{ℕ, ◌+◌, ◌-◌, ◌^◌, ◌≤◌, ◌<◌}
use native.Mathlib.Nat.{mod-eq_of_lt, mod-add-mod}
use native.Mathlib.Decide.{dec_le}
use native.Mathlib.Omega.{arith}
use lib.Dec.{leb, ltb}
use borrow.Author.Tests.{ltb-true, lt-ltb, le-ltb, le-leb, lt-leb}
use Rattle.words.specs.Searches.{all_from}
use Rattle.words.specs.Wrapping.{wrap_add}
use Rattle.words.proofs.Cases.{by-test, by-dec}
use Rattle.words.proofs.SearchLaws.{all_from_at, at-all_from, all-stop}
use Rattle.runs.specs.Runs.{frame_by}

-- a frame below 4,096 is followed by the next frames
frame-after : (offset p i : ℕ) → frame_by offset p < 4096 → i ≤ 1024 → frame_by offset (p + i) ≡ frame_by offset p + i
unfolding frame_by wrap_add
frame-after offset p i low h =
    let e : p + i + offset ≡ p + offset + i = omega arith in
    rw (e, ← mod-add-mod (p + offset) (2 ^ 32) i) (mod-eq_of_lt (omega arith))

module _ (base limit offset f : ℕ) (some : base < limit) (is : f ≡ frame_by offset base) where
  pub first-beyond : 4096 ≤ f → false ≡ all_from (limit - base) base (λ p. ltb (frame_by offset p) 4096)
  first-beyond h = all-stop _ base limit some (le-ltb (frame_by offset base) 4096 (omega arith))

  module _ (fits : limit ≤ 1024) (low : f < 4096) where
    -- the frame of a page of the range
    frame-of : (p : ℕ) → base ≤ p → p < limit → frame_by offset p ≡ f + (p - base)
    frame-of p lo hi =
        let e : base + (p - base) ≡ p = omega arith in
        let r : frame_by offset (base + (p - base)) ≡ frame_by offset base + (p - base) = frame-after offset base (p - base) (omega arith) (omega arith) in
        rw (e, ← is) at r

    pub last-decides : leb (f + (limit - base)) 4096 ≡ all_from (limit - base) base (λ p. ltb (frame_by offset p) 4096)
    last-decides =
        by-dec (dec_le (f + (limit - base)) 4096)
        (λ yes. le-leb _ _ yes
        ∙ sym (at-all_from (limit - base) base _ (λ p lo hi. let e = frame-of p lo (omega arith) in lt-ltb (frame_by offset p) 4096 (omega arith))))
        (λ no. lt-leb (f + (limit - base)) 4096 (omega arith)
        ∙ by-test (all_from (limit - base) base (λ p. ltb (frame_by offset p) 4096))
        (λ t. let e = frame-of (limit - 1) (omega arith) (omega arith) in
        let below : frame_by offset (limit - 1) < 4096 = ltb-true _ _ (all_from_at (limit - base) base _ t (limit - 1) (omega arith) (omega arith)) in
        absurd (omega arith))
        sym)
