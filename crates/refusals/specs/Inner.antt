-- The refusals of the calls in parts, as inner functions judge them one after the other.
use Rattle.std.specs.Prelude.{List, [], ◌∷◌, ◌++◌, ℕ}
use Rattle.words.specs.Refusals.{Refusal}
use Rattle.layout.specs.Tables.{Tables}
use Rattle.layout.specs.Calls.{wrong_length, unsound, no_such_space, wrong_rights, write_without_read, wrong_span, not_open}

-- the buffers: 1, 2
unfoldable pub of_tables : Tables → List (Refusal ℕ)
of_tables T = wrong_length T ∷ unsound T ∷ []

-- a span of an open space, with rights, by the control words: 5, 6, 17, 8, 10
unfoldable pub of_span : List ℕ → ℕ → ℕ → ℕ → ℕ → List (Refusal ℕ)
of_span c s first n rights = no_such_space s ∷ wrong_rights rights ∷ write_without_read rights ∷ wrong_span first n ∷ not_open c s ∷ []

-- both: what the calls on a space share. A call that gives no rights asks for 0, one that names no span for the whole space: these never refuse
unfoldable pub shared : Tables → ℕ → ℕ → ℕ → ℕ → List (Refusal ℕ)
shared T s first n rights = of_tables T ++ of_span T.control s first n rights
