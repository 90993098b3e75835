use Rattle.std.proofs.Common.{zero-le, arith}
use Rattle.words.proofs.WriteLaws.{change-none, change-more}
use Rattle.ranges.proofs.PartLaws.{changed-mid}
use Rattle.ranges.proofs.renew.mark.Goals as goal

pub loop-w-init : goal.loop-w-init
loop-w-init c = change-none _ _ _

pub loop-w-preserved : goal.loop-w-preserved
loop-w-preserved c = change-more _ _ 0 _ _ _ zero-le (omega arith) c.bit_word.ensures c.loop-w.invariant

pub returns : goal.returns
returns c = changed-mid _ _ _ _ _ _ c.requires c.loop-w.invariant c.loop-w-test.false c.loop-w.auto.w-items
