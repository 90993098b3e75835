-- The place for the two values of an answer: written where it has two words, else left alone.
use mathlib.Core.Path.{◌≡◌, refl, ◌∙◌, sym, subst}
use mathlib.Core.Bool.{true, false}
use mathlib.Core.List.{List, [], ◌∷◌}
use Prim.Native.Nat.{ℕ}
use lib.ListN.{length, set}
use borrow.Author.Tests.{eq-eqb, ne_eqb}
use Rattle.words.specs.declared.Outcome.{Outcome}
use Rattle.words.specs.Places.{is_place, placed, Given, PlaceExamples}
use Rattle.words.proofs.WriteLaws.{put_all}

module _ (vs : List ℕ) where
  pub is-place : length vs ≡ 2 → is_place vs ≡ true
  unfolding is_place
  is-place e = eq-eqb _ _ e

  pub is-no-place : (length vs ≡ 2 → ⊥) → is_place vs ≡ false
  unfolding is_place
  is-no-place n = ne_eqb _ _ n

  pub put : length vs ≡ 2 → (o : Outcome) → o.first ∷ o.second ∷ [] ≡ placed vs o
  unfolding placed
  put e o = rw (is-place e, placed)

  pub stays : (length vs ≡ 2 → ⊥) → (o : Outcome) → vs ≡ placed vs o
  unfolding placed
  stays n o = rw (is-no-place n, placed)

module _ (o : Outcome) (vs : List ℕ) where
  pub given : length vs ≡ 2 → Given o vs o.number (set (set vs 0 o.first) 1 o.second)
  given e = record { returned = rw (is-place vs e) refl; left = put_all (o.first ∷ o.second ∷ []) vs e ∙ put vs e o }

  pub not-given : (length vs ≡ 2 → ⊥) → Given o vs 1 vs
  not-given n = record { returned = rw (is-no-place vs n) refl; left = stays vs n o }

  -- what a place of two words is given
  pub given-there : length vs ≡ 2 → (r : ℕ) (vs' : List ℕ) → Given o vs r vs' → (r ≡ o.number) × (vs' ≡ o.first ∷ o.second ∷ [])
  given-there e r vs' g = (rw (is-place vs e) at g.returned, g.left ∙ sym (put vs e o))

pub given-same : (o p : Outcome) → o ≡ p → (vs : List ℕ) (r : ℕ) (vs' : List ℕ) → Given o vs r vs' → Given p vs r vs'
given-same o p e vs r vs' g = subst (λ (x : Outcome). Given x vs r vs') e g

pub place-examples : PlaceExamples
unfolding PlaceExamples placed is_place
place-examples = (refl, (refl, (refl, refl)))
