use Rattle.std.proofs.Common.{◌≡◌}
use Rattle.invalidation.specs.Entries.{kept}
use Rattle.invalidation.proofs.KeepLaws.{changed_to}
use Rattle.invalidation.proofs.catch_up.drop_entries.Given as goal

abbrev pub invariant-loop-e : goal.invariant-loop-e
invariant-loop-e g l = let m = g.E.Entry in l.e-items ≡ changed_to (kept (m.named l.d) m.EMPTY) l.e-index l.initial.e-items
