use mathlib.Core.Path.{refl, ◌∙◌}
use native.Mathlib.Omega.{arith}
use Rattle.coretrace.proofs.InputLaws.{shorter}
use Rattle.coretrace.proofs.input.read_on.Goals as goal

pub loop-stdin-init : goal.loop-stdin-init
loop-stdin-init g c = (refl, (omega arith, (omega arith, refl)))

pub loop-stdin-preserved : goal.loop-stdin-preserved
loop-stdin-preserved g c = (
  omega arith,
  (omega arith, (omega arith, shorter c.args.n c.loop-stdin.to c.loop-stdin.buffer _ (omega arith) c.read_to-got.ensures.buffer_unchanged ∙ c.loop-stdin.invariant.1.1.1)),
)

pub returns-after-loop-stdin : goal.returns-after-loop-stdin
returns-after-loop-stdin g c = record { lower_bound = c.loop-stdin.invariant.1.0; upper_bound = omega arith; buffer_unchanged = c.loop-stdin.invariant.1.1.1 }

pub returns-then-got-eq0 : goal.returns-then-got-eq0
returns-then-got-eq0 g c = record { lower_bound = c.loop-stdin.invariant.1.0; upper_bound = omega arith; buffer_unchanged = shorter c.args.n c.loop-stdin.to c.loop-stdin.buffer _ (omega arith) c.read_to-got.ensures.buffer_unchanged ∙ c.loop-stdin.invariant.1.1.1 }
