use Rattle.std.proofs.Common.{◌≡◌, ◌+◌, ◌*◌}
use Rattle.unitwords.proofs.EntryLaws.{tabled_to}
use Rattle.unitwords.proofs.read_entries.Given as goal

abbrev pub invariant-loop-k : goal.invariant-loop-k
invariant-loop-k g l = let m = g.E.EntryWords in l.entries ≡ tabled_to (λ k. m.from_words l.words (l.start + m.WORDS * k)) l.k l.initial.entries
