-- Records. Document 01, Program coretrace: "two-byte length of what follows, two-byte kind, two-byte arguments in the order given under Calls, all little-endian". The bytes b of a record are those that follow its length.
use Rattle.std.specs.Prelude.{◌||◌, not, cond, List, [], ◌∷◌, ℕ, ◌+◌, ◌*◌, eqb, ltb, length, get_or, Result, Ok, Err}
use Rattle.words.specs.Refusals.{Refusal, decide}
use Rattle.history.specs.declared.Call.{Call}
use Rattle.history.specs.declared.Call.TheVariants.{OnTables, OnUnit}
use Rattle.history.specs.declared.UnitCall.TheVariants.{Translate}
use Rattle.layout.specs.declared.TableCall.TheVariants.{SetUpPool, Open, Close, Map, Unmap, Protect, Coverage}
use Rattle.records.specs.declared.Request.{Request}
use Rattle.records.specs.declared.Malformed.{Malformed}

-- the little-endian word at place i
abbrev pub word_at : List ℕ → ℕ → ℕ
word_at b i = get_or b i 0 + 256 * get_or b (i + 1) 0

-- the two-byte kind
abbrev pub kind_of : List ℕ → ℕ
kind_of b = word_at b 0

-- argument i, the first being 0
abbrev pub argument : List ℕ → ℕ → ℕ
argument b i = word_at b (2 + 2 * i)

-- how many arguments a kind from 1 to 8 has: set up, open, close 1; map 4; unmap 3; protect, translate 4; coverage 1
abbrev pub arguments : ℕ → ℕ
arguments k = cond (ltb k 4) 1 (cond (eqb k 5) 3 (cond (eqb k 8) 1 4))

-- the length of a record of a kind from 1 to 8
abbrev pub record_length : ℕ → ℕ
record_length k = 2 + 2 * arguments k

-- "translate (unit 0 or 1 first)"; 0 where the call takes no unit
abbrev pub unit_by : ℕ → List ℕ → ℕ
unit_by k b = cond (eqb k 7) (argument b 0) 0

-- "Kinds: 1 set up F (..); 2 open; 3 close; 4 map; 5 unmap; 6 protect; 7 translate (unit 0 or 1 first); 8 coverage"
abbrev pub call_by : ℕ → List ℕ → Call
call_by k b =
    cond (eqb k 1) (OnTables (SetUpPool (argument b 0)))
    (cond (eqb k 2) (OnTables (Open (argument b 0)))
    (cond (eqb k 3) (OnTables (Close (argument b 0)))
    (cond (eqb k 4) (OnTables (Map (argument b 0) (argument b 1) (argument b 2) (argument b 3)))
    (cond (eqb k 5) (OnTables (Unmap (argument b 0) (argument b 1) (argument b 2)))
    (cond (eqb k 6) (OnTables (Protect (argument b 0) (argument b 1) (argument b 2) (argument b 3)))
    (cond (eqb k 7) (OnUnit (Translate (argument b 1) (argument b 2) (argument b 3)))
    (OnTables (Coverage (argument b 0)))))))))

-- what a record asks for: a request, or nothing
abbrev pub Meaning : Type 0
Meaning = Result Request Malformed

-- a malformed record of kind k
abbrev pub malformed : ℕ → Meaning
malformed k = Err (record { 0 = k })

-- a call c on unit n, of kind k
abbrev pub asks : ℕ → ℕ → Call → Meaning
asks k n c = Ok (record { kind = k; unit = n; call = c })

-- "Length below 2 .. : kind 0"
unfoldable pub too_short : List ℕ → Refusal Meaning
too_short b = record { when = ltb (length b) 2; answer = malformed 0 }

-- "Unknown kind, wrong length or unit above 1: 16, skip the record"
unfoldable pub unknown_kind : List ℕ → Refusal Meaning
unknown_kind b = record { when = ltb (kind_of b) 1 || ltb 8 (kind_of b); answer = malformed (kind_of b) }

unfoldable pub wrong_record_length : List ℕ → Refusal Meaning
wrong_record_length b = record { when = not (eqb (length b) (record_length (kind_of b))); answer = malformed (kind_of b) }

unfoldable pub no_such_unit : List ℕ → Refusal Meaning
no_such_unit b = record { when = ltb 1 (unit_by (kind_of b) b); answer = malformed (kind_of b) }

-- what a record asks for
unfoldable pub meaning : List ℕ → Meaning
meaning b = decide (too_short b ∷ unknown_kind b ∷ wrong_record_length b ∷ no_such_unit b ∷ []) (asks (kind_of b) (unit_by (kind_of b) b) (call_by (kind_of b) b))
