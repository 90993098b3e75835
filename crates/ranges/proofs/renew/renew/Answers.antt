use Rattle.std.proofs.Common.{◌∙◌, arith}
use Rattle.runs.proofs.WalkLaws.{entries-few}
use Rattle.runs.proofs.StepLaws.{zeros-follow}
use Rattle.ranges.proofs.PartLaws.{zeros-mid}
use Rattle.ranges.proofs.renew.renew.Goals as goal

pub returns-clause-ranges_after : goal.returns-clause-ranges_after
returns-clause-ranges_after c = let w = c.list_ranges-at.ensures in
    let few = entries-few c.args.part.now (omega arith) in
    zeros-mid _ _ _ (omega (arith, few, w.value)) (c.fill.ensures.after (λ y e. e)) ∙ zeros-follow _ _ _ (omega arith) w.value w.ranges_after
