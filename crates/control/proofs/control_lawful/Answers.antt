use Rattle.std.proofs.Common.{rules, tests, refl, ◌∙◌, arith}
use Rattle.std.proofs.lemmas.Iterator.{YieldsList-from_range}
use Rattle.std.proofs.lemmas.Iterator.Search.{all_from_yields_List}
use Rattle.blocks.proofs.Published.{size-test, test-size}
use Rattle.control.specs.Control.{record_fits}
use Rattle.control.proofs.ControlLaws.{lawful-no, lawful-records, all-of-range}
use Rattle.control.proofs.control_lawful.Goals as goal

pub returns-then-pool-lt1 : goal.returns-then-pool-lt1
returns-then-pool-lt1 c = lawful-no _ (λ s. let p = size-test _ s.pool in grind (arith, p.0, p.1, s.mask, c.then-pool-lt1.either))

pub returns : goal.returns
returns c =
    all_from_yields_List (record_fits c.args.control.now) _ _ c.all.result c.all.ensures.ran (YieldsList-from_range 0 64 64 refl refl) (λ x b q k. search (rules, tests))
    ∙ all-of-range (record_fits c.args.control.now) 0 64 ∙ lawful-records _ (test-size _ (omega arith) (omega arith)) (omega arith)
