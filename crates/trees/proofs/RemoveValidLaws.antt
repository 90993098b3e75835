-- A tree after a removal: its list is without the range, and it is lawful.
use mathlib.Core.Path.{◌≡◌, refl, sym, ◌∙◌}
use mathlib.Core.Bool.{true}
use mathlib.Core.List.{List, [], ◌∷◌, append-nil}
use Prim.Native.Nat.{ℕ, zero, suc, ◌≤◌}
use native.Mathlib.Omega.{arith}
use lib.ListN.{length}
use Rattle.trees.specs.Ranges.{remove_list, holds_base}
use Rattle.trees.specs.Trees.{Branch, Tree, Rooted, along, in_row, contents, besides, nodes, occ, Each, Shape}
use Rattle.trees.specs.Removal.{take_at, lowered, remove_from, remove_tree}
use Rattle.trees.specs.Inner.Spans.{Between}
use Rattle.trees.specs.Inner.Holding.{Valid}
use Rattle.trees.specs.Inner.Taking.{at_base}
use Rattle.trees.proofs.RangeLaws.{remove-between, remove-proper}
use Rattle.trees.proofs.PlaceLaws.{occ-append}
use Rattle.trees.proofs.TakingLaws.{list-taken}
use Rattle.trees.proofs.RemovalLaws.{take-contents, weaker-shape, take-shape, take-occ}

lowered-ranges : (h n : ℕ) (a : Tree h) (bs : List (Branch (Tree h))) → contents (lowered h n a bs).height (lowered h n a bs).tree ≡ contents (suc h) (record { number = n; row = record { first = a; rest = bs } })
unfolding lowered contents in_row along
lowered-ranges h n a [] = sym (append-nil (contents h a))
lowered-ranges h n a (x ∷ xs) = refl

from-ranges : (b h : ℕ) (t : Tree h) (lo hi : ℕ) → Shape h 1 t → Between lo (contents h t) hi → holds_base b (contents h t) ≡ true → contents (remove_from b h t).height (remove_from b h t).tree ≡ remove_list b (contents h t)
unfolding remove_from
from-ranges b zero t lo hi s m k = unfold contents remove_list in refl
from-ranges b (suc h) t lo hi s m k =
    lowered-ranges h (take_at b h t).left.number (take_at b h t).left.row.first (take_at b h t).left.row.rest
    ∙ (take-contents b h 1 t lo hi s m (at_base k)).1 ∙ (list-taken b lo (contents (suc h) t) hi m k).0

-- the ranges after a removal are those before it, without the one of BASE b
pub remove-contents : (b : ℕ) (t : Rooted) → Valid t → holds_base b (contents t.height t.tree) ≡ true → contents (remove_tree b t).height (remove_tree b t).tree ≡ remove_list b (contents t.height t.tree)
unfolding remove_tree
remove-contents b t v k = from-ranges b t.height t.tree 0 1024 v.shape v.between k

lowered-fits : (h n : ℕ) (a : Tree h) (bs : List (Branch (Tree h))) → length bs ≤ 4 → Shape h 2 a → Each (Shape h 2) bs → Shape (lowered h n a bs).height 1 (lowered h n a bs).tree
unfolding lowered
lowered-fits h n a [] f p q = weaker-shape h a p
lowered-fits h n a (x ∷ xs) f p q = record { enough = omega arith; few = f; first = p; others = q }

from-fits : (b h : ℕ) (t : Tree h) → Shape h 1 t → Shape (remove_from b h t).height 1 (remove_from b h t).tree
unfolding remove_from
from-fits b zero t s = tt
from-fits b (suc h) t s =
    let k = take-shape b h 0 t s in
    lowered-fits h (take_at b h t).left.number (take_at b h t).left.row.first (take_at b h t).left.row.rest k.few k.first k.others

lowered-occ : (m h n : ℕ) (a : Tree h) (bs : List (Branch (Tree h))) → occ m (nodes (lowered h n a bs).height (lowered h n a bs).tree) ≤ occ m (nodes (suc h) (record { number = n; row = record { first = a; rest = bs } }))
unfolding lowered nodes occ
lowered-occ m h n a [] = let e = occ-append m (nodes h a) (besides (nodes h) []) in omega arith
lowered-occ m h n a (x ∷ xs) = omega arith

from-occ : (m b h : ℕ) (t : Tree h) → occ m (nodes (remove_from b h t).height (remove_from b h t).tree) ≤ occ m (nodes h t)
unfolding remove_from
from-occ m b zero t = omega arith
from-occ m b (suc h) t =
    let a = take-occ m b h t in
    let c = lowered-occ m h (take_at b h t).left.number (take_at b h t).left.row.first (take_at b h t).left.row.rest in
    omega arith

-- no node is taken
remove-occ : (m b : ℕ) (t : Rooted) → occ m (nodes (remove_tree b t).height (remove_tree b t).tree) ≤ occ m (nodes t.height t.tree)
unfolding remove_tree
remove-occ m b t = from-occ m b t.height t.tree

remove-shape : (b : ℕ) (t : Rooted) → Shape t.height 1 t.tree → Shape (remove_tree b t).height 1 (remove_tree b t).tree
unfolding remove_tree
remove-shape b t s = from-fits b t.height t.tree s

pub remove-valid : (b : ℕ) (t : Rooted) → Valid t → holds_base b (contents t.height t.tree) ≡ true → Valid (remove_tree b t)
remove-valid b t v k =
    record {
      shape = remove-shape b t v.shape;
      numbers = λ m l. v.numbers m (let a = remove-occ m b t in omega arith);
      once = λ m. let a = remove-occ m b t in let c = v.once m in omega arith;
      between = rw (remove-contents b t v k) (remove-between b v.between);
      propers = rw (remove-contents b t v k) (remove-proper b v.propers);
    }
