use Rattle.std.proofs.Common.{refl, ◌∙◌, arith}
use Rattle.runs.specs.Walk.{entry_of}
use Rattle.ranges.proofs.PartLaws.{put-entry}
use Rattle.ranges.proofs.renew.put.Goals as goal

pub returns : goal.returns
unfolding entry_of
returns c = put-entry _ _ _ (omega arith) _ (c.copy_from_slice.ensures.after ∙ c.entry.ensures) refl
