use Rattle.trees.proofs.NodeLaws.{put-none, put-more, put_all}
use native.Mathlib.Omega.{arith}
use Rattle.treenodes.proofs.writing.put.Goals as goal

pub loop-j-init : goal.loop-j-init
loop-j-init c = put-none _ _ _

pub loop-j-preserved : goal.loop-j-preserved
loop-j-preserved c = put-more _ _ _ _ _ _ c.loop-j.invariant (omega arith) c.word_of.ensures

pub returns : goal.returns
returns c = put_all _ _ _ _ _ (omega arith) c.loop-j.invariant
