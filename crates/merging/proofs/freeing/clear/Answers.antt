use Prim.Native.Nat.{zero-le}
use native.Mathlib.Omega.{arith}
use Rattle.std.proofs.lemmas.List.{length-take-le}
use Rattle.words.proofs.WriteLaws.{change-none, change-more}
use Rattle.blocks.proofs.FreeLaws.{cleared-front}
use Rattle.merging.proofs.freeing.clear.Goals as goal

pub loop-w-init : goal.loop-w-init
loop-w-init c = change-none _ _ _

pub loop-w-preserved : goal.loop-w-preserved
loop-w-preserved c = change-more _ _ _ _ _ _ zero-le (omega arith) c.cleared.ensures c.loop-w.invariant

pub returns : goal.returns
returns c = let all = length-take-le c.args.pool c.args.frames.now (omega arith) in cleared-front _ _ _ _ _ _ (omega arith) (omega arith) (omega arith) c.loop-w.invariant
