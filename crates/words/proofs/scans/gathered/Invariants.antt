use Rattle.std.proofs.Common.{◌≡◌, ℕ, Bool, ◌+◌, eqb}
use Rattle.words.specs.Searches.{all_from}
use Rattle.words.specs.Inner.{Tells}
use Rattle.words.proofs.scans.gathered.Given as goal

abbrev pub invariant-loop-k : goal.invariant-loop-k
invariant-loop-k g l = (p : ℕ → Bool) → Tells (goal.F-post g l.differs) p l.at (l.at + l.k) → eqb l.bits 0 ≡ all_from l.k l.at p
