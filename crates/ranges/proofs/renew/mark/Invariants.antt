use Rattle.words.specs.Inner.{ChangedTo}
use Rattle.runs.specs.Walk.{bit_word}
use Rattle.ranges.proofs.renew.mark.Given as goal

abbrev pub invariant-loop-w : goal.invariant-loop-w
invariant-loop-w l = ChangedTo (λ q w. bit_word l.bit w) l.initial.w-items 0 l.w-index l.w-items
