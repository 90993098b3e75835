use Rattle.words.specs.Inner.{CountedUp}
use Rattle.framewords.proofs.buffer.count_up.Given as goal

abbrev pub invariant-loop-g : goal.invariant-loop-g
invariant-loop-g l = CountedUp l.initial.words l.from l.g l.first l.words
