use Rattle.std.proofs.Common.{◌≡◌}
use Rattle.unitwords.proofs.EntryLaws.{written_to}
use Rattle.unitwords.proofs.write_entries.Given as goal

abbrev pub invariant-loop-k : goal.invariant-loop-k
invariant-loop-k g l = let m = g.E.EntryWords in l.words ≡ written_to m.in_words m.WORDS l.k l.entries l.initial.words
