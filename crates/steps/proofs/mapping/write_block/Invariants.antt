use Rattle.steps.proofs.StepLaws.{Changed, mapped_from}
use Rattle.steps.proofs.mapping.write_block.Given as goal

abbrev pub invariant-loop-k : goal.invariant-loop-k
invariant-loop-k l = Changed (mapped_from l.page l.rights l.frame) l.initial.part l.page l.k l.part
