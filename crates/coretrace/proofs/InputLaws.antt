-- What reading on keeps of the bytes that wait.
use mathlib.Core.Path.{◌≡◌, ap, sym, subst, ◌∙◌}
use mathlib.Core.List.{List}
use Prim.Native.Nat.{ℕ, ◌-◌, ◌≤◌}
use native.Mathlib.Nat.{zero-add}
use native.Mathlib.Omega.{arith}
use lib.ListN.{length, take, drop, length-drop}
use lib.Seq.{take-take, paste, take-paste}
use Rattle.records.specs.declared.Window.{Window}
use Rattle.records.specs.Input.{waiting}

-- what stands at the front of y as of x does so of a shorter front
pub shorter : (n to : ℕ) (x y : List ℕ) → n ≤ to → take to y ≡ take to x → take n y ≡ take n x
shorter n to x y h e = sym (take-take n to y h) ∙ ap (take n) e ∙ take-take n to x h

-- reading on keeps what waits
module _ (w : Window) (x : List ℕ) where
  pub as_before : take (w.to - w.from) (waiting w x) ≡ waiting w x
  unfolding waiting
  as_before = take-take (w.to - w.from) (w.to - w.from) (drop w.from x) (omega arith)

  module _ (y z : List ℕ) (to : ℕ) (h : w.to ≤ length x) (l : w.to - w.from ≤ to) where
    room : w.to - w.from ≤ length (drop w.from x)
    room = let d : length (drop w.from x) ≡ length x - w.from = length-drop w.from x in omega arith

    pub moved : y ≡ paste x 0 (drop w.from x) (w.to - w.from) → take (w.to - w.from) z ≡ take (w.to - w.from) y → take (w.to - w.from) (waiting (record { from = 0; to = to }) z) ≡ waiting w x
    unfolding waiting
    moved s e =
        take-take (w.to - w.from) (to - 0) z (omega arith)
        ∙ e
        ∙ ap (take (w.to - w.from)) s
        ∙ subst (λ (i : ℕ). take i (paste x 0 (drop w.from x) (w.to - w.from)) ≡ take (w.to - w.from) (drop w.from x)) (zero-add (w.to - w.from)) (take-paste x 0 (drop w.from x) (w.to - w.from) (omega arith) room)
