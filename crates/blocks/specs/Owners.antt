-- Who owns which frame, before and after frames are given and freed. An owner of 0 says that a frame is free.
use Rattle.std.specs.Prelude.{Bool, true, false, ◌&&◌, List, [], ◌∷◌, ℕ, suc, ◌+◌, leb, ltb, eqb}
use Rattle.words.specs.Searches.{any_from}

-- frame f given to o
unfoldable pub put : (ℕ → ℕ) → ℕ → ℕ → ℕ → ℕ
put owner f o g = elim (eqb g f) [ true ↦ o | false ↦ owner g ]

-- the frames of the list given to o, o + 1, ..
unfoldable pub give : (ℕ → ℕ) → ℕ → List ℕ → ℕ → ℕ
give owner o [] = owner
give owner o (f ∷ fs) = give (put owner f o) (suc o) fs

-- p is one of the n owners from o on
unfoldable pub in_span : ℕ → ℕ → ℕ → Bool
in_span o n p = leb o p && ltb p (o + n)

-- p, or nobody where p is one of them
unfoldable pub cleared : ℕ → ℕ → ℕ → ℕ
cleared o n p = elim (in_span o n p) [ true ↦ 0 | false ↦ p ]

-- the owners when the n owners from o on hold nothing any more
unfoldable pub freed : (ℕ → ℕ) → ℕ → ℕ → ℕ → ℕ
freed owner o n g = cleared o n (owner g)

-- owner p holds a frame of the pool of F frames
unfoldable pub holds : ℕ → (ℕ → ℕ) → ℕ → Bool
holds F owner p = any_from F 0 (λ g. eqb (owner g) p)
