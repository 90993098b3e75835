-- A turn of the run: one unfolding of the listing, with the lines and the bytes in their buffers.
use Rattle.std.specs.Prelude.{◌≡◌, Bool, false, cond, List, [], ℕ, ◌+◌, ◌≤◌, ◌<◌, length, drop, Option, Some, None}
use Rattle.words.specs.Rows.{refusal}
use Rattle.layout.specs.Tables.{Tables}
use Rattle.records.specs.declared.Next.{Next}
use Rattle.records.specs.declared.Next.TheVariants.{End, Cut, Whole}
use Rattle.trace.specs.declared.State.{State}
use Rattle.trace.specs.declared.Turn.{Turn}
use Rattle.recordcalls.specs.declared.TwoUnits.{TwoUnits}
use Rattle.recordcalls.specs.declared.Shown.{Shown}
use Rattle.records.specs.Input.{waiting, standing, next_of, behind}
use Rattle.records.specs.Lines.{written, longest_line, line}
use Rattle.recordcalls.specs.Steps.{fresh_units, needs_unit}
use Rattle.trace.specs.Listing.{Came, last}

-- what the bytes that wait show is put behind the held lines, the number rises by one and the window moves behind the record, so that the bytes behind it wait
pub record Turned (T : Tables) (p : TwoUnits) (s : State) (buffer lines : List ℕ) (T' : Tables) (p' : TwoUnits) (s' : State) (lines' : List ℕ) : Type 0 where
  pub shown : List ℕ
  pub came : Came T p s.number (next_of (waiting s.window buffer)) shown T' p' s'.goes
  pub put : lines' ≡ written s.held shown lines
  pub held : s'.held ≡ s.held + length shown
  pub number : s'.number ≡ s.number + 1
  pub window : s'.window ≡ behind s.window buffer
  pub rest : waiting s'.window buffer ≡ drop (standing (waiting s.window buffer)) (waiting s.window buffer)

-- a turn taken beside the units: whatever they are, they stay or become fresh, and so did those lent, p, which are p' afterwards
pub record TurnedBeside (T : Tables) (p : TwoUnits) (s : State) (buffer lines : List ℕ) (T' : Tables) (p' : TwoUnits) (s' : State) (lines' : List ℕ) : Type 0 where
  pub renews : Bool
  pub left : p' ≡ cond renews fresh_units p
  pub turned : (q : TwoUnits) → Turned T q s buffer lines T' (cond renews fresh_units q) s' lines'

-- the window and the held lines lie in their buffers
pub record Lies (s : State) (buffer lines : List ℕ) : Type 0 where
  pub ordered : s.window.from ≤ s.window.to
  pub within : s.window.to ≤ length buffer
  pub held : s.held ≤ length lines

-- and there is room for a line, which has at most `longest_line` bytes
pub record Ready (s : State) (buffer lines : List ℕ) : Type 0 where
  pub lies : Lies s buffer lines
  pub room : s.held + longest_line ≤ length lines
  pub below : s.number < last

-- "input cut short: kind 0, answer 16"
abbrev pub cut_short : Shown
cut_short = record { kind = 0; outcome = refusal 16 }

-- the turn that stops, at the end with no line and at a cut with one
abbrev pub stopped : Option Shown → Turn
stopped shown = record { shown = shown; goes = false }

-- the bytes that a turn shows
abbrev pub line_of : ℕ → Option Shown → List ℕ
line_of number None = []
line_of number (Some s) = line number s.kind s.outcome

-- whether what comes next asks for a call that is lent a unit
abbrev pub wants_unit : Next → Bool
wants_unit End = false
wants_unit Cut = false
wants_unit (Whole m) = needs_unit m
