use Rattle.std.proofs.Common.{◌∙◌, rules, tests}
use Rattle.std.proofs.lemmas.Iterator.{YieldsList-from_slice}
use Rattle.std.proofs.lemmas.Iterator.Consumers.{YieldsList-from_enumerate}
use Rattle.std.proofs.lemmas.Iterator.Search.{all_from_yields_List}
use Rattle.invalidation.proofs.KeepLaws.{all-every}
use Rattle.invalidation.proofs.formed.all_formed.Goals as goal

pub returns : goal.returns
returns g c =
    let f = g.E.Entry.formed in
    all_from_yields_List (λ x. f x.0 x.1) _ _ c.all.result c.all.ensures.ran (YieldsList-from_enumerate (YieldsList-from_slice c.args.entries.now (cc)) (cc)) (λ x b q k. search (rules, tests))
    ∙ all-every f 0 c.args.entries.now
