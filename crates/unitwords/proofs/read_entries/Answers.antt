use Rattle.unitwords.proofs.EntryLaws.{none-tabled, next-tabled, all-tabled, entry-ends, entry-begins}
use native.Mathlib.Omega.{arith}
use mathlib.Core.Path.{refl, ◌∙◌}
use Rattle.unitwords.proofs.read_entries.Goals as goal

pub loop-k-init : goal.loop-k-init
loop-k-init g c = none-tabled _ _

pub read-requires : goal.read-requires
read-requires g c = entry-ends _ _ _ _ _ _ (omega (arith, c.WORDS.ensures)) c.loop-k-test.true c.requires

pub loop-k-preserved : goal.loop-k-preserved
loop-k-preserved g c =
    next-tabled _ _ _ _ _ c.loop-k.invariant c.loop-k-test.true (entry-begins (g.E.EntryWords.from_words c.args.words.now) _ _ _ _ _ (omega (arith, c.WORDS.ensures)) c.read.ensures)

pub returns : goal.returns
returns g c = c.loop-k.invariant ∙ all-tabled _ _ _ _ (omega arith) refl
