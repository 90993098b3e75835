use Rattle.std.proofs.Common.{ℕ, Bool, ◌+◌, ◌*◌, ◌≤◌}
use Rattle.words.specs.Inner.{PassTo, Tells}
use Rattle.words.proofs.scans.chunks_to.Given as goal

abbrev pub invariant-loop-c : goal.invariant-loop-c
invariant-loop-c g l = (l.from + g.row.N * l.c ≤ l.end) × ((p : ℕ → Bool) → Tells (goal.F-post g l.differs) p l.from l.end → PassTo p l.from l.end (l.from + g.row.N * l.c))
