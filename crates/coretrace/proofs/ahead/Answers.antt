use mathlib.Core.Path.{◌≡◌, refl, ap, ◌∙◌}
use mathlib.Core.Bool.{Bool, cond}
use Prim.Native.Nat.{◌+◌, ◌≤◌}
use native.Mathlib.Omega.{arith}
use lib.ListN.{length}
use Rattle.coretrace.specs.Runs.{keeps}
use Rattle.records.specs.Lines.{longest_line}
use Rattle.coretrace.proofs.RunLaws.{has_room}
use Rattle.coretrace.proofs.ahead.Goals as goal

pub returns : goal.returns
returns g c = let a = c.args in
    let e : c.settle-held.result ≡ cond (keeps a.s a.buffer.now a.lines.now) a.s.held 0 = c.settle-held.ensures ∙ ap (λ (k : Bool). cond k a.s.held 0) c.keeps.ensures in
    let room : cond (keeps a.s a.buffer.now a.lines.now) a.s.held 0 + longest_line ≤ length a.lines.now = has_room a.s a.buffer.now a.lines.now (omega arith) (omega arith) in
    record { ready = record { lies = record { ordered = c.fill-window.ensures.from_le_to_2; within = omega (arith, c.fill-window.ensures.to_in_bounds_2); held = omega arith }; room = omega arith; below = omega arith }; number_value = refl; held_value = e; buffer_after = c.fill-window.ensures.buffer_after }
