use Rattle.std.proofs.Common.{rules}
use Rattle.runs.specs.PageWords.{mapped}
use Rattle.steps.proofs.StepLaws.{as-unmapped}
use Rattle.steps.proofs.unmapping.unmap_space.Goals as goal

pub returns : goal.returns
returns c = as-unmapped _ _ _ _ _ _ (c.rewrite_span.ensures (λ w. 0) mapped (λ w r made. (search rules, search rules)))
