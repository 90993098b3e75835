use mathlib.Core.Path.{refl, ap, sym, ◌∙◌}
use mathlib.Core.Bool.{false, ◌&&◌}
use lib.Dec.{eqb}
use Rattle.words.specs.Rows.{accepted}
use Rattle.recordcalls.proofs.StepLaws.{left-beside}
use Rattle.trace.specs.Inner.{wants_unit}
use Rattle.trace.proofs.ListingLaws.{came-end, came-cut, came-taken}
use Rattle.trace.proofs.turns.answer.Goals as goal

pub returns-in-End : goal.returns-in-End
returns-in-End c = record { came = came-end _ _ _ _ c.in-End.is c.stop.ensures; beside = λ w. (false, (refl, λ p. came-end _ p _ _ c.in-End.is c.stop.ensures)) }

pub returns-in-Cut : goal.returns-in-Cut
returns-in-Cut c =
    record {
      came = came-cut _ _ _ _ c.in-Cut.is _ c.cut_short.ensures c.stop-in-Cut.ensures;
      beside = λ w. (false, (refl, λ p. came-cut _ p _ _ c.in-Cut.is _ c.cut_short.ensures c.stop-in-Cut.ensures));
    }

pub returns-in-Whole : goal.returns-in-Whole
returns-in-Whole c =
    record {
      came = came-taken _ _ _ _ _ _ _ c.in-Whole.is c.take.ensures.taken;
      beside = λ w.
          let f = sym (ap wants_unit c.in-Whole.is) ∙ w in
          let b = c.take.ensures.beside f in
          (eqb c.take.result.kind 1 && accepted c.take.result.outcome, (left-beside c.take.ensures.taken f, λ p. came-taken _ p _ _ _ _ _ c.in-Whole.is (b.taken p)));
    }
