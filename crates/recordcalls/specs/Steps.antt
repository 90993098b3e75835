-- What a record does to the tables and two units, and what is shown of it.
use Rattle.std.specs.Prelude.{Bool, true, false, ◌&&◌, cond, ℕ, eqb, Ok, Err}
use Rattle.words.specs.declared.Outcome.{Outcome}
use Rattle.words.specs.Rows.{refusal, accepted}
use Rattle.layout.specs.Tables.{Tables}
use Rattle.history.specs.declared.Unit.{Unit as TlbUnit}
use Rattle.history.specs.declared.Call.{Call}
use Rattle.history.specs.Units.{fresh_unit}
use Rattle.history.specs.Lists.{Does, takes_unit}
use Rattle.records.specs.Records.{Meaning, malformed, asks}
use Rattle.recordcalls.specs.declared.TwoUnits.{TwoUnits}
use Rattle.recordcalls.specs.declared.Shown.{Shown}

unfoldable pub fresh_units : TwoUnits
fresh_units = record { first = fresh_unit; second = fresh_unit }

-- unit n, 0 or 1
abbrev pub unit_at : TwoUnits → ℕ → TlbUnit
unit_at p n = cond (eqb n 0) p.first p.second

-- the units with unit n changed
abbrev pub with_unit_at : TwoUnits → ℕ → TlbUnit → TwoUnits
with_unit_at p n u = cond (eqb n 0) (record { first = u; second = p.second }) (record { first = p.first; second = u })

-- "1 set up F (once accepted, also both units)"
abbrev pub renewed : ℕ → Outcome → TwoUnits → TwoUnits
renewed k o p = cond (eqb k 1 && accepted o) fresh_units p

-- "16 malformed record; it makes no call"; any other makes its call, on its unit
pub data RecordTaken (T : Tables) (p : TwoUnits) : Meaning → Shown → Tables → TwoUnits → Type 0 where
  skipped : {k : ℕ} → RecordTaken T p (malformed k) (record { kind = k; outcome = refusal 16 }) T p
  made : {k n : ℕ} {c : Call} {o : Outcome} {u : TlbUnit} {T' : Tables} → Does true T (unit_at p n) o c T' u → RecordTaken T p (asks k n c) (record { kind = k; outcome = o }) T' (renewed k o (with_unit_at p n u))

-- whether a record asks for a call that is lent a unit; a malformed one makes no call
abbrev pub needs_unit : Meaning → Bool
needs_unit (Err e) = false
needs_unit (Ok r) = takes_unit r.call

-- a record taken beside the units: whatever they are, they stay or become fresh, so it is taken without them
pub record TakenBeside (T : Tables) (m : Meaning) (r : Shown) (T' : Tables) : Type 0 where
  pub taken : (p : TwoUnits) → RecordTaken T p m r T' (renewed r.kind r.outcome p)
