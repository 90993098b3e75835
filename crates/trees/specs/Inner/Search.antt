-- The search of all three calls: in a node, and a descent one level lower. It finds the first range that ends behind a page.
use Rattle.std.specs.Prelude.{Bool, false, cond, List, [], ◌∷◌, Option, Some, None, unwrap_or, ℕ, zero, suc, ◌+◌, leb, ltb, eqb}
use Rattle.trees.specs.declared.Range.{Range}
use Rattle.trees.specs.declared.Path.{Path}
use Rattle.trees.specs.Ranges.{covers}
use Rattle.trees.specs.Trees.{Tree, Branch}
use Rattle.trees.specs.Inner.Places.{first_at}

-- of a list, the first range that ends behind page p
unfoldable pub first_behind : ℕ → List Range → Option Range
first_behind p [] = None
first_behind p (r ∷ rs) = cond (ltb p r.limit) (Some r) (first_behind p rs)

-- there is a range, and it begins at page p
unfoldable pub begins_at : Option Range → ℕ → Bool
begins_at None p = false
begins_at (Some r) p = eqb r.base p

-- there is a range, and it has page p
unfoldable pub has_page : Option Range → ℕ → Bool
has_page None p = false
has_page (Some r) p = covers r p

-- there is a range, and it begins before page p
unfoldable pub begins_before : Option Range → ℕ → Bool
begins_before None p = false
begins_before (Some r) p = ltb r.base p

-- nothing is there, and no node was visited
unfoldable pub nowhere : Path
nowhere = record { range = None; nodes = 0 }

unfoldable pub hit : Range → Path
hit r = record { range = Some r; nodes = 0 }

-- one node more on the way
unfoldable pub further : Path → Path
further w = record { range = w.range; nodes = w.nodes + 1 }

-- r where nothing was found
unfoldable pub or_else : Range → Path → Path
or_else r w = record { range = Some (unwrap_or w.range r); nodes = w.nodes }

-- the first of k places from i on whose range ends behind page p, or the place behind them
abbrev pub slot_behind : (ℕ → Range) → ℕ → ℕ → ℕ → ℕ
slot_behind r p k i = first_at (λ j. ltb p (r j).limit) k i

-- along a row; f searches a child
unfoldable pub search_along : {A : Type 0} → (A → Path) → ℕ → A → List (Branch A) → Path
search_along f p a [] = f a
search_along f p a (x ∷ xs) =
    cond (ltb p x.range.limit)
    (cond (leb x.range.base p) (hit x.range) (or_else x.range (f a)))
    (search_along f p x.child xs)

unfoldable pub search_tree : (h : ℕ) → Tree h → ℕ → Path
search_tree zero t p = nowhere
search_tree (suc h) t p = further (search_along (λ (c : Tree h). search_tree h c p) p t.row.first t.row.rest)
