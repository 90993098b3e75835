use mathlib.Core.Path.{ap}
use Prim.Native.Nat.{ℕ, ◌+◌}
use native.Mathlib.Omega.{arith}
use lib.ListN.{length-set}
use Rattle.control.proofs.ControlLaws.{append-is}
use Rattle.control.proofs.append.Goals as goal

pub word_of_place-at-requires : goal.word_of_place-at-requires
word_of_place-at-requires c = omega arith

pub bounds-control-at : goal.bounds-control-at
bounds-control-at c = simp length-set (omega arith)

pub bounds-control-at-2 : goal.bounds-control-at-2
bounds-control-at-2 c = simp length-set (omega arith)

pub bounds-control-at-3 : goal.bounds-control-at-3
bounds-control-at-3 c = simp length-set (omega arith)

pub returns : goal.returns
returns c = append-is _ _ _ _ _ _ (ap (λ (x : ℕ). x + 1) c.removal_count-m.ensures) c.word_of_place-at.ensures.value
