-- The place of two words that a caller lends for the two values of an answer, and what an exported function puts there.
use Rattle.std.specs.Prelude.{◌≡◌, Bool, true, false, List, [], ◌∷◌, ℕ, eqb, length}
use Rattle.words.specs.declared.Outcome.{Outcome}
use Rattle.words.specs.Rows.{refusal, values}

-- the words of the place for the two values
abbrev pub value_words : ℕ
value_words = 2

-- a place for the two values
unfoldable pub is_place : List ℕ → Bool
is_place vs = eqb (length vs) value_words

-- what stands there afterwards: the two values, zeros of a refusal too; words of another length stay
unfoldable pub placed : List ℕ → Outcome → List ℕ
placed vs o = elim (is_place vs) [ true ↦ o.first ∷ o.second ∷ [] | false ↦ vs ]

-- the number r is returned and vs' left of the place vs: those of the outcome, or 1 ("1 a buffer length differs") and nothing written where vs has another length
pub record Given (o : Outcome) (vs : List ℕ) (r : ℕ) (vs' : List ℕ) : Type 0 where
  pub returned : r ≡ elim (is_place vs) [ true ↦ o.number | false ↦ 1 ]
  pub left : vs' ≡ placed vs o

-- examples: values, and the zeros of a refusal, in a place of two words; words of another length
unfoldable pub PlaceExamples : Type 0
PlaceExamples =
    (placed (8 ∷ 9 ∷ []) (values 5 6) ≡ 5 ∷ 6 ∷ [])
    × ((placed (8 ∷ 9 ∷ []) (refusal 18) ≡ 0 ∷ 0 ∷ []) × ((placed (8 ∷ []) (values 5 6) ≡ 8 ∷ []) × (placed (7 ∷ 8 ∷ 9 ∷ []) (values 5 6) ≡ 7 ∷ 8 ∷ 9 ∷ [])))
