use mathlib.Core.Path.{◌≡◌}
use Prim.Native.Nat.{◌-◌, ◌≤◌}
use lib.ListN.{length, take}
use Rattle.coretrace.proofs.input.read_on.Given as goal

abbrev pub invariant-loop-stdin : goal.invariant-loop-stdin
invariant-loop-stdin g l = (length l.buffer ≡ length l.initial.buffer) × ((l.n ≤ l.to) × ((l.to ≤ length l.buffer) × (take l.n l.buffer ≡ take l.n l.initial.buffer)))

abbrev pub decreases-loop-stdin : goal.decreases-loop-stdin
decreases-loop-stdin g l = length l.buffer - l.to
