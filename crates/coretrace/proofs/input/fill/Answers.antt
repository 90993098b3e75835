use mathlib.Core.Path.{refl, sym, ◌∙◌}
use Prim.Native.Nat.{◌≤◌}
use native.Mathlib.Omega.{arith}
use borrow.Author.Tests.{ltb-false}
use Rattle.records.specs.Input.{waiting, standing}
use Rattle.coretrace.proofs.InputLaws.{as_before, moved}
use Rattle.coretrace.proofs.input.fill.Goals as goal

pub returns-then-ready : goal.returns-then-ready
returns-then-ready g c = record { from_le_to_2 = omega arith; to_in_bounds_2 = omega arith; buffer_after = as_before c.args.w c.args.buffer.now; value = λ h. (refl, refl) }

pub returns : goal.returns
returns g c = let a = c.args in
    let none : standing (waiting a.w a.buffer.now) ≤ 0 = ltb-false _ _ (sym c.ready.ensures ∙ c.if-ready.false) in
    record { from_le_to_2 = omega arith; to_in_bounds_2 = omega (arith, c.read_on-to.ensures.upper_bound); buffer_after = moved a.w a.buffer.now _ _ c.read_on-to.result (omega arith) (omega (arith, c.read_on-to.ensures.lower_bound)) c.copy_within.ensures.after c.read_on-to.ensures.buffer_unchanged; value = λ h. absurd (omega (arith, none, h)) }
