-- Arrays made by a closure that only reads what it was lent.
use mathlib.Core.Path.{◌≡◌, refl, ap, ◌∙◌}
use mathlib.Core.List.{List}
use Prim.Native.Nat.{ℕ, zero, suc, ◌+◌, ◌<◌}
use native.Mathlib.Omega.{arith}
use lib.ListN.{get_or}
use denote.Param.Members.{Mut, Called}
use Rattle.std.specs.Array.{IsFromFnResult, IsFromFnResultFrom}

module _ {F B : Type 0} (g : Mut F (ℕ × Unit {0}) B) (f : F) (h : ℕ → B) (gives : (i : ℕ) (y : B) (q : F) → Called g f (i, tt) y q → (q ≡ f) × (y ≡ h i)) where
  made-from : (ys : List B) (n i : ℕ) (p : F) → p ≡ f → IsFromFnResultFrom g p ys i n → (k j : ℕ) (d : B) → k < n → j ≡ i + k → get_or ys j d ≡ h j
  made-from ys zero i p e r k j d l at = absurd (omega arith)
  made-from ys (suc n) i p e r zero j d l at =
      let z : j ≡ i = omega arith in
      ap (λ (x : ℕ). get_or ys x d) z ∙ r.2.1 d ∙ (gives i r.1 r.0 (rw e at r.3)).1 ∙ ap h (omega arith)
  made-from ys (suc n) i p e r (suc k) j d l at = made-from ys n (i + 1) r.0 (gives i r.1 r.0 (rw e at r.3)).0 r.4 k j d (omega arith) (omega arith)

  -- what stands at each place is what the closure gives there
  pub made : (ys : List B) (n : ℕ) → IsFromFnResult g f ys n → (j : ℕ) (d : B) → j < n → get_or ys j d ≡ h j
  made ys n r j d l = made-from ys n 0 f refl r.each j j d l (omega arith)
