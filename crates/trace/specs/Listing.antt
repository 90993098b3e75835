-- The listing of a list of input bytes. Document 01, Program coretrace.
use Rattle.std.specs.Prelude.{◌≡◌, Bool, true, false, List, [], ◌++◌, ℕ, ◌+◌, ◌<◌, drop}
use Rattle.words.specs.Rows.{refusal}
use Rattle.layout.specs.Tables.{Tables, zeroed}
use Rattle.records.specs.Records.{Meaning}
use Rattle.records.specs.declared.Next.{Next}
use Rattle.records.specs.declared.Next.TheVariants.{End, Cut, Whole}
use Rattle.recordcalls.specs.declared.Shown.{Shown}
use Rattle.recordcalls.specs.declared.TwoUnits.{TwoUnits}
use Rattle.records.specs.Input.{standing, next_of}
use Rattle.records.specs.Lines.{line, header}
use Rattle.recordcalls.specs.Steps.{fresh_units, RecordTaken}

-- what comes next as record `number`: the bytes that are shown, the tables and units afterwards, and whether the run goes on
pub data Came (T : Tables) (p : TwoUnits) (number : ℕ) : Next → List ℕ → Tables → TwoUnits → Bool → Type 0 where
  -- no byte is left: no line
  ended : Came T p number End [] T p false
  -- "input cut short: kind 0, answer 16; a cut also stops"
  cut : Came T p number Cut (line number 0 (refusal 16)) T p false
  -- "Each further line, one for each record and parted by single spaces: record number from 1, kind, answer, first, second"
  taken : {m : Meaning} {s : Shown} {T' : Tables} {p' : TwoUnits} → RecordTaken T p m s T' p' → Came T p number (Whole m) (line number s.kind s.outcome) T' p' true

-- a record's number has 64 bits, so the program would end before this record
abbrev pub last : ℕ
last = 18446744073709551615

-- the lines of the bytes b from record `number` on
pub data Listed : Tables → TwoUnits → ℕ → List ℕ → List ℕ → Type 0 where
  full : {T : Tables} {p : TwoUnits} {b : List ℕ} → Listed T p last b []
  stops : {T T' : Tables} {p p' : TwoUnits} {number : ℕ} {b l : List ℕ} → number < last → Came T p number (next_of b) l T' p' false → Listed T p number b l
  goes_on : {T T' : Tables} {p p' : TwoUnits} {number : ℕ} {b l l' : List ℕ} → number < last → Came T p number (next_of b) l T' p' true → Listed T' p' (number + 1) (drop (standing b) b) l' → Listed T p number b (l ++ l')

-- the listing of the bytes b. "It has two units and zeroed buffers": "The header line shown is printed first", then the lines from record 1 on
pub record Listing (b out : List ℕ) : Type 0 where
  pub lines : List ℕ
  pub listed : Listed zeroed fresh_units 1 b lines
  pub is : out ≡ header ++ lines
