use mathlib.Core.Path.{ap, ◌∙◌}
use Rattle.trace.specs.Inner.{wants_unit}
use Rattle.trace.proofs.ListingLaws.{stepped}
use Rattle.trace.proofs.turns.step.Goals as goal

pub returns : goal.returns
returns c =
    let next = c.fetch-next.ensures in
    let turn = c.answer-turn.ensures in
    let after = c.after.ensures in
    record {
      turned = stepped _ _ _ _ _ _ _ _ _ _ _ c.requires next turn.came after.lines_after after.value;
      beside = λ w. let b = turn.beside (ap wants_unit next ∙ w) in record { renews = b.0; left = b.1.0; turned = λ p. stepped _ _ p _ _ _ _ _ _ _ _ c.requires next (b.1.1 p) after.lines_after after.value };
      lies = after.lies;
    }
