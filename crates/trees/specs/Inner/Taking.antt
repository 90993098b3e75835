-- Taking a range out of a list, as `take_at` takes one out of a tree.
use Rattle.std.specs.Prelude.{◌≡◌, true, cond, List, [], ◌∷◌, ℕ, ◌≤◌, ltb, length}
use Rattle.trees.specs.declared.Range.{Range}
use Rattle.trees.specs.Ranges.{holds_base}
use Rattle.trees.specs.Nodes.{no_range}
use Rattle.trees.specs.Removal.{Taken}
use Rattle.trees.specs.Inner.Spans.{Between}

-- the first whose BASE is not below b, or the last
unfoldable pub take_list : ℕ → List Range → Taken (List Range)
take_list b [] = record { range = no_range; left = [] }
take_list b (x ∷ []) = record { range = x; left = [] }
take_list b (x ∷ y ∷ ys) =
    cond (ltb x.base b) (record { range = (take_list b (y ∷ ys)).range; left = x ∷ (take_list b (y ∷ ys)).left })
    (record { range = x; left = y ∷ ys })

-- what b stands for in rs: a range of that BASE, or the last one, where all end at page b or before it
pub data Aims (b : ℕ) (rs : List Range) : Type 0 where
  at_base : holds_base b rs ≡ true → Aims b rs
  at_last : (lo : ℕ) → Between lo rs b → 1 ≤ length rs → Aims b rs
