-- The kinds of records by their numbers.
use Rattle.std.specs.Prelude.{◌≡◌, true, ◌||◌, ℕ, ltb, Result, MatchResult}
use Rattle.records.specs.declared.Malformed.{Malformed}
use Rattle.records.specs.declared.kind.Kind.{Kind}
use Rattle.records.specs.declared.kind.Kind.TheVariants.{SetUpPool, Open, Close, Map, Unmap, Protect, Translate, Coverage}

-- "Kinds: 1 set up F (..); 2 open; 3 close; 4 map; 5 unmap; 6 protect; 7 translate (unit 0 or 1 first); 8 coverage"
abbrev pub number : Kind → ℕ
number SetUpPool = 1
number Open = 2
number Close = 3
number Map = 4
number Unmap = 5
number Protect = 6
number Translate = 7
number Coverage = 8

-- the kind of this number, or, where no kind has it, the number
abbrev pub Decodes : ℕ → Result Kind Malformed → Type 0
Decodes n r = MatchResult r (λ k. number k ≡ n) (λ e. (e.0 ≡ n) × ((ltb n 1 || ltb 8 n) ≡ true))
