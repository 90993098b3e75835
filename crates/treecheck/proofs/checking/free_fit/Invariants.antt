use Rattle.trees.specs.Inner.Walk.{free_fits}
use Rattle.words.specs.Searches.{all_from}
use Prim.Native.Nat.{◌-◌}
use mathlib.Core.Path.{◌≡◌}
use Rattle.treecheck.proofs.checking.free_fit.Given as goal

abbrev pub invariant-loop-n : goal.invariant-loop-n
invariant-loop-n l = all_from 64 0 (free_fits l.tree l.walk.seen) ≡ all_from (64 - l.n) l.n (free_fits l.tree l.walk.seen)
