use Rattle.std.proofs.Common.{rules, false, not, eqb}
use Rattle.runs.specs.PageWords.{page_word, rights_in, frame_in}
use Rattle.steps.proofs.StepLaws.{as-protected}
use Rattle.steps.proofs.protecting.protect_space.Goals as goal

pub returns : goal.returns
returns c = as-protected _ _ _ _ _ _ _ (c.rewrite_span.ensures (λ w. page_word false c.args.rights (frame_in w)) (λ w. not (eqb (rights_in w) c.args.rights)) (λ w r made. (search rules, search rules)))
