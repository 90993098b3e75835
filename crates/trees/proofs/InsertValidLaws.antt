-- An insertion leaves a lawful tree: the numbers it takes are unused ones, each once, and there are enough of them.
use mathlib.Core.Path.{◌≡◌, refl, ap}
use mathlib.Core.Bool.{true, false}
use mathlib.Core.List.{List, [], ◌∷◌, ◌++◌, append-nil}
use Prim.Native.Nat.{ℕ, suc, ◌+◌, ◌≤◌}
use native.Mathlib.Omega.{arith}
use native.Mathlib.Decide.{dec_lt}
use lib.Dec.{eqb}
use lib.ListN.{length, length-append}
use borrow.Author.Tests.{eqb-true, eqb-false}
use Rattle.words.proofs.Cases.{by-dec}
use Rattle.trees.specs.declared.Range.{Range}
use Rattle.trees.specs.Ranges.{proper, insert_list, overlaps}
use Rattle.trees.specs.Trees.{Tree, Rooted, contents, nodes, besides, occ}
use Rattle.trees.specs.Insertion.{Grown, whole, parts, insert_at, topped, unused_numbers, taken_number, insert_tree}
use Rattle.trees.specs.Inner.Spans.{Between, Proper}
use Rattle.trees.specs.Inner.Places.{sum}
use Rattle.trees.specs.Inner.Standing.{grown_nodes}
use Rattle.trees.specs.Inner.Holding.{Valid}
use Rattle.trees.proofs.RangeLaws.{is-proper, proper-some, insert-between, insert-proper}
use Rattle.trees.proofs.InsertionLaws.{insert-contents, insert-shape}
use Rattle.trees.proofs.PlaceLaws.{occ-append}
use Rattle.trees.proofs.PassingLaws.{Among, passing-among, first-occ}
use Rattle.trees.proofs.SizeLaws.{between-length, size-one, free-enough}
use Rattle.trees.proofs.GainLaws.{Gains, insert-gains, sum_ones}

-- the numbers of a tree after an insertion, weighed
record Gained (f : ℕ → ℕ) (ns new : List ℕ) : Type 0 where
  levels : ℕ
  weigh : (w : List ℕ → ℕ) → w [] ≡ 0 → ((xs ys : List ℕ) → w (xs ++ ys) ≡ w xs + w ys) → w new ≡ w ns + sum levels (λ j. w (f j ∷ []))

topped-gains : (f : ℕ → ℕ) (h : ℕ) (t : Tree h) (g : Grown (Tree h)) → Gains f h t g → Gained f (nodes h t) (nodes (topped f h g).height (topped f h g).tree)
unfolding topped grown_nodes nodes besides sum
topped-gains f h t (whole a) k = record { levels = k.levels; weigh = k.weigh }
topped-gains f h t (parts a s c) k = record {
  levels = suc h;
  weigh = λ w nil adds.
      let e = k.weigh w nil adds in let l = ap (λ (i : ℕ). sum i (λ j. w (f j ∷ []))) (k.full a s c refl) in
      let d = adds (f h ∷ []) (nodes h a ++ (nodes h c ++ [])) in let n = ap (λ (x : List ℕ). w (nodes h a ++ x)) (append-nil (nodes h c)) in
      omega arith;
}

module _ (r : Range) (t : Rooted) (valid : Valid t) (ok : proper r ≡ true) (apart : overlaps r (contents t.height t.tree) ≡ false) where
  pub new-between : Between 0 (insert_list r (contents t.height t.tree)) 1024
  new-between = let p = proper-some r ok in let h = (is-proper r ok).top in insert-between r (omega arith) (omega arith) h apart valid.between

  pub new-proper : Proper (insert_list r (contents t.height t.tree))
  new-proper = insert-proper r ok valid.propers

  made : contents (insert_tree r t).height (insert_tree r t).tree ≡ insert_list r (contents t.height t.tree)
  made = insert-contents r t 0 1024 valid.between

  small : length (nodes (insert_tree r t).height (insert_tree r t).tree) ≤ 64
  small =
      let l = between-length new-between new-proper in let e = ap length made in
      let x = size-one (insert_tree r t).height (insert_tree r t).tree (insert-shape r t valid.shape) in
      omega arith

  gained : Gained (taken_number t) (nodes t.height t.tree) (nodes (insert_tree r t).height (insert_tree r t).tree)
  unfolding insert_tree
  gained = topped-gains (taken_number t) t.height t.tree (insert_at (taken_number t) r t.height t.tree) (insert-gains (taken_number t) r t.height 1 t.tree valid.shape)

  enough : gained.levels ≤ length (unused_numbers t)
  unfolding unused_numbers
  enough =
      let w = gained.weigh length refl length-append in let e = sum_ones gained.levels (taken_number t) in let s = small in
      let f = free-enough (λ m. eqb (occ m (nodes t.height t.tree)) 0) (nodes t.height t.tree) (λ m l e. some _ (eqb-false _ _ e)) in
      omega arith
    where
      some : (x : ℕ) → (x ≡ 0 → ⊥) → 1 ≤ x
      some x n = omega arith

  most : (m : ℕ) → occ m (nodes (insert_tree r t).height (insert_tree r t).tree) ≤ occ m (nodes t.height t.tree) + occ m (unused_numbers t)
  unfolding occ taken_number
  most m = let w = gained.weigh (occ m) refl (occ-append m) in let e = first-occ (unused_numbers t) gained.levels m 64 enough in omega arith

  new : (m : ℕ) → Among (unused_numbers t) 0 64 m (λ i. eqb (occ i (nodes t.height t.tree)) 0)
  unfolding unused_numbers
  new m = passing-among 64 0 m (λ i. eqb (occ i (nodes t.height t.tree)) 0)

  pub insert-valid : Valid (insert_tree r t)
  insert-valid = record {
    shape = insert-shape r t valid.shape;
    numbers = λ m l. let x = most m in
        by-dec (dec_lt 0 (occ m (nodes t.height t.tree))) (λ k. valid.numbers m k) (λ k. let y = (new m).high (omega arith) in omega arith);
    once = λ m. let x = most m in let y = valid.once m in let o = (new m).once in
        by-dec (dec_lt 0 (occ m (unused_numbers t))) (λ k. let z : occ m (nodes t.height t.tree) ≡ 0 = eqb-true _ _ ((new m).does k) in omega arith) (λ k. omega arith);
    between = rw made new-between;
    propers = rw made new-proper;
  }
