use Rattle.std.proofs.Common.{◌≡◌, ◌≤◌, ◌<◌, ℕ, false}
use Rattle.history.specs.Translate.{covers, table_entry}
use Rattle.lookup.proofs.install.table_range.Given as goal

abbrev pub invariant-loop-j : goal.invariant-loop-j
invariant-loop-j l = (k : ℕ) → 0 ≤ k → k < l.j → covers (table_entry l.s l.ranges k) l.s l.p.0 ≡ false
