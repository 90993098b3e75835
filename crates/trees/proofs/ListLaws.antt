-- A lawful tree by its list: ranges that ascend, none of which insertion beside the others would refuse, are proper ranges one behind the other.
use mathlib.Core.Path.{◌≡◌, refl, sym, ◌∙◌}
use mathlib.Core.Bool.{false}
use mathlib.Core.List.{List, [], ◌∷◌, ◌++◌}
use Prim.Native.Nat.{ℕ, ◌≤◌, ◌<◌}
use native.Mathlib.Omega.{arith}
use lib.Seq.{append_snoc}
use borrow.Author.Tests.{le-ltb}
use Rattle.words.specs.Refusals.{decide}
use Rattle.words.proofs.Cases.{or-false}
use Rattle.trees.specs.declared.Range.{Range}
use Rattle.trees.specs.Ranges.{overlapping, overlaps, beside_refusals, Ascends, nothing, single, higher}
use Rattle.trees.specs.Trees.{Rooted, contents}
use Rattle.trees.specs.Lawful.{LawfulTree}
use Rattle.trees.specs.Inner.Spans.{Between, none, one, Proper, none_yet, and_one}
use Rattle.trees.specs.Inner.Holding.{Valid}
use Rattle.trees.proofs.RangeLaws.{between_le, around, is-proper, apart, proper-head, proper-right}
use Rattle.trees.proofs.ContentsLaws.{overlaps-low}
use Rattle.trees.proofs.CallLaws.{proper-fine, taken-range}

-- Ranges one behind the other

follows : {rs : List Range} {hi : ℕ} (q : Range) → q.base < q.limit → Between q.limit rs hi → Ascends (q ∷ rs)
follows q s (none a) = single
follows q s (one {r = r} a b m) = let l : q.base < r.base = omega arith in higher l (follows r b m)

between-ascends : {lo : ℕ} {rs : List Range} {hi : ℕ} → Between lo rs hi → Ascends rs
between-ascends (none a) = nothing
between-ascends (one {r = r} a b m) = follows r b m

-- a range overlaps none that ends before it
pub apart-left : {lo : ℕ} {xs : List Range} (r : Range) (ys : List Range) → Between lo xs r.base → overlaps r ys ≡ false → overlaps r (xs ++ ys) ≡ false
unfolding overlaps overlapping
apart-left r ys (none a) o = o
apart-left r ys (one {r = q} {rs = qs} a b m) o = let l = between_le m in rw (le-ltb r.base q.limit l) (apart-left r ys m o)

none_beside : (lo hi : ℕ) (xs : List Range) (r : Range) (ys : List Range) → Between lo (xs ++ r ∷ ys) hi → Proper (xs ++ r ∷ ys) → decide (beside_refusals r (xs ++ ys)) 0 ≡ 0
none_beside lo hi xs r ys m p =
    let q = around lo xs r ys hi m in
    proper-fine r (xs ++ ys) (proper-head (proper-right xs (r ∷ ys) p)).0 (apart-left r ys q.left (overlaps-low r (omega arith) q.right))

pub valid-lawful : (t : Rooted) → Valid t → LawfulTree t
valid-lawful t v = record {
  shape = v.shape;
  numbers = v.numbers;
  once = v.once;
  ascending = between-ascends v.between;
  none-refused = λ xs r ys e. none_beside 0 1024 xs r ys (rw e at v.between) (rw e at v.propers);
}

overlaps-right : (r : Range) (xs ys : List Range) → overlaps r (xs ++ ys) ≡ false → overlaps r ys ≡ false
unfolding overlaps
overlaps-right r [] ys o = o
overlaps-right r (x ∷ xs) ys o = overlaps-right r xs ys (or-false (overlapping r x) (overlaps r (xs ++ ys)) o).1

behind : (r q : Range) (ys : List Range) → overlaps r (q ∷ ys) ≡ false → r.base < q.limit → r.limit ≤ q.base
unfolding overlaps
behind r q ys o l = (apart r q (or-false (overlapping r q) (overlaps r ys) o).0).0 l

-- the list all of whose ranges are taken beside the others, from some range on
module _ (rs : List Range) (none-refused : (xs : List Range) (r : Range) (ys : List Range) → rs ≡ xs ++ r ∷ ys → decide (beside_refusals r (xs ++ ys)) 0 ≡ 0) where
  next-split : (xs : List Range) (r : Range) (ys : List Range) → rs ≡ xs ++ r ∷ ys → rs ≡ (xs ++ (r ∷ [])) ++ ys
  next-split xs r ys e = e ∙ sym (append_snoc xs r ys)

  propers-from : (xs ys : List Range) → rs ≡ xs ++ ys → Proper ys
  propers-from xs [] e = none_yet
  propers-from xs (r ∷ ys) e = and_one (taken-range r (xs ++ ys) (none-refused xs r ys e)).0 (propers-from (xs ++ (r ∷ [])) ys (next-split xs r ys e))

  between-from : (lo : ℕ) (xs : List Range) (r : Range) (ys : List Range) → rs ≡ xs ++ r ∷ ys → Ascends (r ∷ ys) → lo ≤ r.base → Between lo (r ∷ ys) 1024
  between-from lo xs r [] e single l =
      let p = is-proper r (taken-range r (xs ++ []) (none-refused xs r [] e)).0 in let a = p.pages in
      one {r = r} l (omega arith) (none p.top)
  between-from lo xs r (q ∷ ys) e (higher g a) l =
      let x = taken-range r (xs ++ q ∷ ys) (none-refused xs r (q ∷ ys) e) in
      let y = taken-range q (xs ++ (r ∷ []) ++ ys) (none-refused (xs ++ (r ∷ [])) q ys (next-split xs r (q ∷ ys) e)) in
      let p = (is-proper r x.0).pages in let s = (is-proper q y.0).pages in
      one {r = r} l (omega arith) (between-from r.limit (xs ++ (r ∷ [])) q ys (next-split xs r (q ∷ ys) e) a (behind r q ys (overlaps-right r xs (q ∷ ys) x.1) (omega arith)))

  between-all : (ys : List Range) → rs ≡ ys → Ascends ys → Between 0 ys 1024
  between-all [] e a = let z : 0 ≤ 1024 = omega arith in none z
  between-all (r ∷ ys) e a = between-from 0 [] r ys e a (omega arith)

pub lawful-valid-tree : (t : Rooted) → LawfulTree t → Valid t
lawful-valid-tree t v = record {
  shape = v.shape;
  numbers = v.numbers;
  once = v.once;
  between = between-all (contents t.height t.tree) v.none-refused (contents t.height t.tree) refl v.ascending;
  propers = propers-from (contents t.height t.tree) v.none-refused [] (contents t.height t.tree) refl;
}
