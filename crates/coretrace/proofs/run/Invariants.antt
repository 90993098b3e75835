use mathlib.Core.Path.{◌≡◌}
use Prim.Native.Nat.{◌-◌}
use lib.ListN.{length}
use Rattle.layout.specs.Tables.{tables}
use Rattle.trace.specs.Listing.{last}
use Rattle.coretrace.proofs.RunLaws.{Turning}
use Rattle.coretrace.proofs.run.Given as goal

abbrev pub invariant-loop-s : goal.invariant-loop-s
invariant-loop-s g l = (length l.control ≡ length l.initial.control) × ((length l.frames ≡ length l.initial.frames) × ((length l.pages ≡ length l.initial.pages) × ((length l.ranges ≡ length l.initial.ranges) × ((length l.lines ≡ length l.initial.lines) × Turning (tables l.initial.control l.initial.frames l.initial.pages l.initial.ranges) (tables l.control l.frames l.pages l.ranges) l.units l.s l.buffer l.lines))))

abbrev pub decreases-loop-s : goal.decreases-loop-s
decreases-loop-s g l = last - l.s.number
