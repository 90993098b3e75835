-- The exports from the public calls.
use mathlib.Core.Path.{◌≡◌, refl, ◌∙◌}
use mathlib.Core.List.{List}
use Prim.Native.Nat.{ℕ}
use lib.ListN.{length}
use borrow.Author.Tests.{eq-eqb, ne_eqb}
use Rattle.words.specs.declared.Outcome.{Outcome}
use Rattle.words.specs.Refusals.{decide}
use Rattle.words.specs.Rows.{Row, refusal, number_of, outcome_of, leaves, Promised, after}
use Rattle.words.specs.Places.{is_place, placed, Given}
use Rattle.words.proofs.RowLaws.{with-before}
use Rattle.rangetree.specs.Exports.{TreeExported}

module _ (w : Row (List ℕ)) (b vs : List ℕ) where
  -- the place has another length
  pub place-refused : (length vs ≡ 2 → ⊥) → TreeExported w b vs 1 b vs
  unfolding is_place placed after outcome_of number_of leaves decide
  place-refused n = let e = ne_eqb (length vs) 2 n in record { outcome = refusal 1; promised = rw e (record { answers = refl; leaves-new = refl }); number = refl; values = rw (e, placed) }

  -- the call's answer is put there
  pub place-given : length vs ≡ 2 → (o : Outcome) {b' : List ℕ} → Promised w b o b' → (r : ℕ) (vs' : List ℕ) → Given o vs r vs' → TreeExported w b vs r b' vs'
  unfolding is_place
  place-given l o {b'} p r vs' g =
      let e = eq-eqb (length vs) 2 l in
      record { outcome = o; promised = rw e (with-before 1 w b o b' p); number = g.returned ∙ rw e; values = g.left }
