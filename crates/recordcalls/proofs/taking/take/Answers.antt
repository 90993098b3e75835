use mathlib.Core.Path.{◌≡◌, ap, ◌∙◌}
use mathlib.Core.Bool.{◌&&◌}
use Prim.Native.Nat.{ℕ}
use native.Mathlib.Omega.{arith}
use lib.Dec.{eqb}
use Rattle.words.specs.Answers.{outcome}
use Rattle.words.specs.Rows.{accepted}
use Rattle.recordcalls.proofs.StepLaws.{skips, skips-beside, makes, makes-beside, renew, stay}
use Rattle.recordcalls.proofs.taking.take.Goals.{then-renews, else-renews}
use Rattle.recordcalls.proofs.taking.take.Goals as goal

pub returns-in-Err : goal.returns-in-Err
returns-in-Err c = record { taken = skips _ _ _ c.in-Err.is _ c.outcome.ensures _; beside = λ f. skips-beside _ _ _ c.in-Err.is _ c.outcome.ensures }

pub returns-after-renews : goal.returns-after-renews
returns-after-renews c =
    let d = c.make_on-answer.ensures in
    let k = c.in-Ok.field-0.kind in
    let a = outcome c.make_on-answer.result in
    let q = c.make_on-answer.new.units in
    let renews : c.renews.result ≡ (eqb k 1 && accepted a) = c.renews.ensures ∙ ap (λ (x : ℕ). eqb x 1 && accepted a) (omega arith) in
    record {
      taken =
          makes _ _ _ _ c.in-Ok.is _ _ _ _ c.outcome-in-Ok.ensures d.does _ _ d.other_stays
          (elim c.if-renews.branch [
            | then-renews w ↦ renew k a q _ _ renews w.if-renews.true (w.units-is ∙ w.fresh_units.ensures)
            | else-renews w ↦ stay k a q _ _ renews w.if-renews.false w.units-is
          ]);
      beside = makes-beside _ _ _ _ c.in-Ok.is _ _ _ _ c.outcome-in-Ok.ensures d.does;
    }
