-- Lines. Document 01, Program coretrace: "The header line shown is printed first. Each further line, one for each record and parted by single spaces: record number from 1, kind, answer, first, second". In ASCII, with a newline at its end.
use Rattle.std.specs.Prelude.{cond, List, [], ◌∷◌, ◌++◌, ℕ, zero, suc, ◌+◌, ◌^◌, ltb, length, take, drop}
use Rattle.io.specs.Digits.{last_digits}
use Rattle.words.specs.declared.Outcome.{Outcome}

-- the first of k, k + 1, .. , k + f that is enough decimal places for n
unfoldable pub places_from : ℕ → ℕ → ℕ → ℕ
places_from zero k n = k
places_from (suc f) k n = cond (ltb n (10 ^ k)) k (places_from f (suc k) n)

-- the decimal digits of a 64-bit number, which has 1 to 20, in ASCII, the most significant first
unfoldable pub decimal : ℕ → List ℕ
decimal n = last_digits 10 (places_from 19 1 n) n

-- a list with l written over it from a place on
unfoldable pub written : ℕ → List ℕ → List ℕ → List ℕ
written at l out = take at out ++ (l ++ drop (at + length l) out)

-- a number and the byte after it
unfoldable pub cell : ℕ → ℕ → List ℕ
cell n after = decimal n ++ (after ∷ [])

-- five numbers of at most 20 digits, and a byte behind each
abbrev pub longest_line : ℕ
longest_line = 105

unfoldable pub line : ℕ → ℕ → Outcome → List ℕ
line number kind o = cell number 32 ++ cell kind 32 ++ cell o.number 32 ++ cell o.first 32 ++ cell o.second 10

-- "record kind answer first second", in ASCII, with a newline at its end
unfoldable pub header : List ℕ
header = 114 ∷ 101 ∷ 99 ∷ 111 ∷ 114 ∷ 100 ∷ 32 ∷ 107 ∷ 105 ∷ 110 ∷ 100 ∷ 32 ∷ 97 ∷ 110 ∷ 115 ∷ 119 ∷ 101 ∷ 114 ∷ 32 ∷ 102 ∷ 105 ∷ 114 ∷ 115 ∷ 116 ∷ 32 ∷ 115 ∷ 101 ∷ 99 ∷ 111 ∷ 110 ∷ 100 ∷ 10 ∷ []
