-- What the calls on a range tree promise to kernels in C and Rust: each is the public call, its number returned and its two values put into a lent place of two words. Words of another length for that place are refused 1, and neither the tree nor the place is altered.
use Rattle.std.specs.Prelude.{◌≡◌, List, [], ◌∷◌, ℕ, not}
use Rattle.words.specs.declared.Outcome.{Outcome}
use Rattle.words.specs.Rows.{Row, Promised, after}
use Rattle.words.specs.Places.{is_place, placed}

-- a call of this row on the words b, with the place vs
pub record TreeExported (w : Row (List ℕ)) (b vs : List ℕ) (r : ℕ) (b' vs' : List ℕ) : Type 0 where
  pub outcome : Outcome
  pub promised : Promised (after (record { when = not (is_place vs); answer = 1 } ∷ []) w) b outcome b'
  pub number : r ≡ outcome.number
  pub values : vs' ≡ placed vs outcome
