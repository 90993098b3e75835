use mathlib.Core.Path.{◌∙◌}
use native.Mathlib.Omega.{arith}
use Rattle.std.proofs.lemmas.List.{get_or-replicate}
use Rattle.blocks.proofs.FreeLaws.{marks-all}
use Rattle.framewords.proofs.owners.all_held.Goals as goal

pub mark_held-requires-clause-unmarked : goal.mark_held-requires-clause-unmarked
mark_held-requires-clause-unmarked c = λ t lt. get_or-replicate 4096 t 0 0 (omega arith)

pub returns : goal.returns
returns c = c.all_same.ensures ∙ marks-all _ _ _ _ _ c.mark_held.ensures
