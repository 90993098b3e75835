use mathlib.Core.Path.{ap, ◌∙◌}
use Prim.Native.Nat.{ℕ, ◌+◌}
use native.Mathlib.Omega.{arith}
use Rattle.records.specs.Input.{standing, behind}
use Rattle.records.proofs.InputLaws.{amount, waits-within}
use Rattle.records.proofs.input.rest.Goals as goal

pub returns : goal.returns
unfolding behind
returns c =
    let a = c.args in
    let e = c.unwrap_or.ensures ∙ amount _ _ c.standing.ensures.value ∙ ap standing c.of.ensures in
    let w = waits-within a.w a.buffer.now c.requires.from_le_to c.requires.to_in_bounds in
    record { value = ap (λ (n : ℕ). record { from = a.w.from + n; to = a.w.to }) e; from_le_to_2 = omega arith; to_in_bounds_2 = omega arith }
