use Rattle.std.proofs.Common.{refl, arith}
use Rattle.runs.proofs.RunningLaws.{carries-le, running-next}
use Rattle.ranges.proofs.running.pass_page.Goals as goal

pub goes_on-length-requires : goal.goes_on-length-requires
goes_on-length-requires c = omega (arith, carries-le _ _ _ _ (omega arith) c.requires.carries)

pub returns : goal.returns
returns c = record { running_length = running-next _ _ _ _ (omega arith) c.requires.carries _ _ refl c.goes_on-length.ensures; word_value = refl }
