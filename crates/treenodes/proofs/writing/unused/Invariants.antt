use Rattle.trees.specs.Nodes.{count_in}
use Prim.Native.Nat.{ℕ, ◌<◌}
use mathlib.Core.Path.{◌≡◌}
use Rattle.treenodes.proofs.writing.unused.Given as goal

abbrev pub invariant-loop-n : goal.invariant-loop-n
invariant-loop-n l = (m : ℕ) → m < l.n → count_in l.tree m ≡ 0 → ⊥
