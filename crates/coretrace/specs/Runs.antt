-- What a run promises, which reads its input and writes its lines by parts.
use Rattle.std.specs.Prelude.{Bool, ◌&&◌, List, ◌++◌, ℕ, ◌-◌, ltb, leb, length, take}
use Rattle.layout.specs.Tables.{Tables}
use Rattle.trace.specs.declared.State.{State}
use Rattle.records.specs.Input.{waiting, standing}
use Rattle.records.specs.Lines.{longest_line}
use Rattle.recordcalls.specs.Steps.{fresh_units}
use Rattle.trace.specs.Listing.{Listed, Listing}

-- the held lines are kept where a whole record waits and its line, which has at most `longest_line` bytes, has room behind them
abbrev pub keeps : State → List ℕ → List ℕ → Bool
keeps s buffer lines = ltb 0 (standing (waiting s.window buffer)) && leb longest_line (length lines - s.held)

-- There are bytes whose lines, from record 1 on, end with the first `held` bytes of `lines`, those still to be written. That `input` is what was read and `sent` what was written is not promised
pub record Ran (T : Tables) (lines : List ℕ) (held : ℕ) : Type 0 where
  pub input : List ℕ
  pub sent : List ℕ
  pub listed : Listed T fresh_units 1 input (sent ++ take held lines)

-- The same of the whole program, its header among what is sent
pub record RanWhole (lines : List ℕ) (held : ℕ) : Type 0 where
  pub input : List ℕ
  pub sent : List ℕ
  pub listing : Listing input (sent ++ take held lines)
