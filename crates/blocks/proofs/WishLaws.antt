-- Which block is taken with a wished frame: the one at the wish where it is wholly free, else the old choice; and what is known once it is taken.
use mathlib.Core.Path.{◌≡◌, refl, ap, ◌∙◌, sym, subst}
use mathlib.Core.Bool.{Bool, true, false}
use mathlib.Core.Option.{Option, none, some}
use Prim.Native.Nat.{ℕ, ◌+◌, ◌^◌, ◌<◌, ◌≤◌}
use native.Mathlib.Decide.{dec_lt, dec_le, ℕ_discrete}
use native.Mathlib.Omega.{arith}
use Rattle.words.specs.Searches.{largest}
use Rattle.words.proofs.Cases.{by-test, by-dec, none-some}
use Rattle.words.proofs.SearchLaws.{Largest, greatest, nothing, largest-is, largest-unique}
use Rattle.blocks.specs.declared.Block.{Block}
use Rattle.blocks.specs.declared.Bound.{Bound}
use Rattle.blocks.specs.Blocks.{block, wholly_free}
use Rattle.blocks.specs.Choice.{serving, is_served, order_for, old_choice, take_order, take_block, end_of, without}
use Rattle.blocks.specs.Inner.Around.{start_of}
use Rattle.blocks.specs.Inner.Taking.{Searched}
use Rattle.blocks.specs.Inner.Passes.{scan_from, from_after, bound_after}
use Rattle.blocks.proofs.FreeBlockLaws.{whole-at, in-block-at}
use Rattle.blocks.proofs.ChoiceLaws.{at-serving, at-served, order-met, order-not-met}
use Rattle.blocks.proofs.SearchedLaws.{NoneAbove, from-clear, from_is, none-larger, first-of-order, stays, from-met, from_old, bound-same, bound-down, known-to, known_behind}

module _ (F : ℕ) (free : ℕ → Bool) where
  by_order : (wish : Option ℕ) (left i : ℕ) → order_for F free left ≡ some i → take_block F free wish left ≡ take_order F free wish i
  unfolding take_block
  by_order wish left i e = ap (λ (o : Option ℕ). elim o [ none ↦ none | some j ↦ take_order F free wish j ]) e

  pub order_small : (left i : ℕ) → order_for F free left ≡ some i → i ≤ 10
  unfolding order_for
  order_small left i e = go (largest 10 (is_served F free left)) e (largest-is 10 (is_served F free left))
    where
      go : (o : Option ℕ) → o ≡ some i → Largest 10 (is_served F free left) o → i ≤ 10
      go o oe (greatest j hi t m) = let ji : j ≡ i = cc in omega arith
      go o oe (nothing m) = none-some i none refl oe

  pub wish-met : (s left i : ℕ) → order_for F free left ≡ some i → wholly_free F free i s ≡ true → take_block F free (some s) left ≡ some (block i s)
  wish-met s left i e met = by_order (some s) left i e ∙ order-met F free s i met

  pub wish-not-met : (s left i : ℕ) → order_for F free left ≡ some i → wholly_free F free i s ≡ false → take_block F free (some s) left ≡ take_block F free none left
  wish-not-met s left i e not-met = by_order (some s) left i e ∙ order-not-met F free s i not-met ∙ sym (by_order none left i e)

  no-order-none : (wish : Option ℕ) (left : ℕ) → order_for F free left ≡ none → take_block F free wish left ≡ none
  unfolding take_block
  no-order-none wish left e = ap (λ (o : Option ℕ). elim o [ none ↦ none | some j ↦ take_order F free wish j ]) e

  pub old-order : (left : ℕ) (x : Block) → take_block F free none left ≡ some x → order_for F free left ≡ some x.order
  unfolding old_choice take_order
  old-order left x e = go (order_for F free left) refl
    where
      go : (o : Option ℕ) → order_for F free left ≡ o → o ≡ some x.order
      go none oe = none-some x (take_block F free none left) (no-order-none none left oe) e
      go (some i) oe = ap some (sym (from_is F free i x (serving F free i) (sym (by_order none left i oe) ∙ e)).0)

  -- an order of which some block is wholly free is the one chosen, where it fits and no larger one is served
  pub order-whole : (left k s : ℕ) → 2 ^ k ≤ left → wholly_free F free k s ≡ true → ((m : ℕ) → k < m → m ≤ 10 → is_served F free left m ≡ false) → order_for F free left ≡ some k
  unfolding order_for
  order-whole left k s fits t no_more =
      let w = whole-at F free k s t in
      let q = in-block-at F free k s w.0 w.2 in
      largest-unique 10 (is_served F free left) k w.0 (at-served F free left k fits (at-serving F free k q.0 _ q.1 q.2 q.3)) no_more

  -- a block taken with a wish starts at the wish and is of the order chosen, or is the old choice
  pub data Taken (s left : ℕ) (x : Block) : Type 0 where
    at-wish : order_for F free left ≡ some x.order → x.start.0 ≡ s → Taken s left x
    as-old : take_block F free none left ≡ some x → Taken s left x

  pub taken_is : (s left : ℕ) (x : Block) → take_block F free (some s) left ≡ some x → Taken s left x
  taken_is s left x e = go (order_for F free left) refl
    where
      go : (o : Option ℕ) → order_for F free left ≡ o → Taken s left x
      go none oe = none-some x (take_block F free (some s) left) (no-order-none (some s) left oe) e
      go (some i) oe =
          by-test (wholly_free F free i s)
          (λ met.
          let same : some (block i s) ≡ some x = sym (wish-met s left i oe met) ∙ e in
          let is : block i s ≡ x = cc in
          at-wish (oe ∙ ap (λ (y : Block). some y.order) is) (sym (ap (λ (y : Block). y.start.0) is)))
          (λ not-met. let old : take_block F free none left ≡ some x = sym (wish-not-met s left i oe not-met) ∙ e in as-old old)

  pub taken-order : (s left : ℕ) (x : Block) → take_block F free (some s) left ≡ some x → order_for F free left ≡ some x.order
  taken-order s left x e = go (taken_is s left x e)
    where
      go : Taken s left x → order_for F free left ≡ some x.order
      go (at-wish o we) = o
      go (as-old old) = old-order left x old

-- what is known once a block was taken with a wish
module _ (F : ℕ) (free : ℕ → Bool) (wish left : ℕ) (x : Bound) (b : Block) (known : Searched F free x) (e : take_block F free (some wish) left ≡ some b)
    (st : start_of b.order b.start.0 ≡ b.start.0) where
  abbrev free' : ℕ → Bool
  free' = without free b.order b.start.0

  as_before : (b.order < 10 → left < 2 ^ (b.order + 1)) → Searched F free' (bound_after x b wish left)
  as_before h = subst (Searched F free') (bound-same x b wish left h) (stays F free b.order b.start.0 x known)

  module _ (small : b.order < 10) (fits : 2 ^ (b.order + 1) ≤ left) where
    by-from : (from : ℕ) → from ≡ from_after x b wish → Searched F free' (record { limit = b.order; from = record { 0 = from } }) → Searched F free' (bound_after x b wish left)
    by-from from fe s = subst (Searched F free') (bound-down x b wish left from small fits fe) s

    none_above : NoneAbove F free b.order
    none_above = none-larger F free left b.order (taken-order F free wish left b e) fits

    behind-old : (b.start.0 ≡ wish → ⊥) → Taken F free wish left b → Searched F free' (bound_after x b wish left)
    behind-old ne (at-wish o we) = absurd (ne we)
    behind-old ne (as-old old) = by-from (end_of b) (from_old x b wish ne) (known_behind F free b small none_above st (first-of-order F free left b (omega arith) none_above old))

    lowered : Taken F free wish left b → Searched F free' (bound_after x b wish left)
    lowered t =
        by-dec (ℕ_discrete b.start.0 wish)
        (λ met. by-from (scan_from x b.order) (from-met x b wish met) (stays F free b.order b.start.0 _ (known-to F free b small none_above _ (from-clear F free x b.order _ known refl))))
        (λ ne. behind-old ne t)

  pub known-after : Searched F free' (bound_after x b wish left)
  known-after =
      by-dec (dec_lt b.order 10)
      (λ lt. by-dec (dec_le (2 ^ (b.order + 1)) left) (λ fits. lowered lt fits (taken_is F free wish left b e)) (λ over. as_before (λ _. omega arith)))
      (λ ge. as_before (λ lt. absurd (omega arith)))
