-- OFFSET, made by a wrapping subtraction and applied by a wrapping addition.
use mathlib.Core.Path.{◌≡◌, ap, ◌∙◌}
use Prim.Native.Nat.{ℕ, ◌+◌, ◌-◌, ◌%◌, ◌^◌, ◌<◌, ◌≤◌}
use native.Mathlib.Nat.{mod-lt}
use native.Mathlib.Omega.{arith}
use lib.Pow.{pow_pos}
use Rattle.words.specs.Wrapping.{wrap_add, wrap_sub}
use Rattle.words.proofs.WrappingLaws.{add_back}

pub sub-lt : (w a b : ℕ) → wrap_sub w a b < 2 ^ w
unfolding wrap_sub
sub-lt w a b = mod-lt (a + (2 ^ w - b)) (pow_pos w)

-- the same difference d further back
sub_back : (w a b d : ℕ) → d ≤ a → d ≤ b → b ≤ 2 ^ w → wrap_sub w a b ≡ wrap_sub w (a - d) (b - d)
unfolding wrap_sub
sub_back w a b d far near fits = let e : a + (2 ^ w - b) ≡ (a - d) + (2 ^ w - (b - d)) = omega arith in ap (λ (x : ℕ). x % 2 ^ w) e

-- the OFFSET of a run's last page b, with frame f, gives the frame of each page before it
pub offset-back : (f b p : ℕ) → p ≤ b → b < 2 ^ 32 → b - p ≤ f → f < 2 ^ 32 → wrap_add 32 p (wrap_sub 32 f b) ≡ f - (b - p)
offset-back f b p lo small far fits =
    let e : b - (b - p) ≡ p = omega arith in
    ap (wrap_add 32 p) (sub_back 32 f b (b - p) far (omega arith) (omega arith) ∙ ap (wrap_sub 32 (f - (b - p))) e)
    ∙ add_back 32 (f - (b - p)) p (omega arith) (omega arith)
