use Prim.Native.Nat.{ℕ, ◌<◌}
use mathlib.Core.Bool.{false}
use Rattle.trees.specs.Nodes.{range_in}
use Rattle.treenodes.proofs.reading.first_place.Given as goal

abbrev pub invariant-loop-i : goal.invariant-loop-i
invariant-loop-i g l = (j : ℕ) → j < l.i → goal.F-post g l.fn.passes (range_in l.tree l.n j) false
