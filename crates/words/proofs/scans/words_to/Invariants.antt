use Rattle.std.proofs.Common.{ℕ, Bool}
use Rattle.words.specs.Inner.{PassTo, Tells}
use Rattle.words.proofs.scans.words_to.Given as goal

abbrev pub invariant-loop-k : goal.invariant-loop-k
invariant-loop-k g l = (p : ℕ → Bool) → Tells (goal.F-post g l.differs) p l.from l.end → PassTo p l.from l.end l.k
