-- Lists of ranges as the laws go through them.
use Rattle.std.specs.Prelude.{◌≡◌, true, List, [], ◌∷◌, ◌++◌, ℕ, ◌≤◌, ◌<◌}
use Rattle.trees.specs.declared.Range.{Range}
use Rattle.trees.specs.Ranges.{proper}
use Rattle.trees.specs.Insertion.{Grown, whole, parts}

-- the ranges ascend, each has a page, and all their pages lie from lo up to hi, hi left out
pub data Between : ℕ → List Range → ℕ → Type 0 where
  none : {lo hi : ℕ} → lo ≤ hi → Between lo [] hi
  one : {lo hi : ℕ} {r : Range} {rs : List Range} → lo ≤ r.base → r.base < r.limit → Between r.limit rs hi → Between lo (r ∷ rs) hi

-- all are proper
pub data Proper : List Range → Type 0 where
  none_yet : Proper []
  and_one : {r : Range} {rs : List Range} → proper r ≡ true → Proper rs → Proper (r ∷ rs)

-- the ranges of one subtree or two
unfoldable pub in_grown : {A : Type 0} → (A → List Range) → Grown A → List Range
in_grown g (whole a) = g a
in_grown g (parts a s c) = g a ++ s ∷ g c
