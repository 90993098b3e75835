use mathlib.Core.Path.{◌≡◌, sym, ◌∙◌}
use native.Mathlib.Omega.{arith}
use Rattle.blocks.proofs.SettleLaws.{start-zero, no_more}
use Rattle.merging.proofs.settling.grow.Goals as goal

pub loop-k-init : goal.loop-k-init
loop-k-init c = start-zero _ _ _ c.requires.edge c.requires.f_lt_pool c.requires.f_value

pub returns-then-not-grows : goal.returns-then-not-grows
returns-then-not-grows c = no_more _ _ _ c.requires.edge _ (omega arith) c.loop-k.invariant (λ h. sym c.grows.ensures ∙ c.if-not-grows.true)

pub returns : goal.returns
returns c = let e : c.loop-k.k ≡ 10 = omega arith in no_more _ _ _ c.requires.edge 10 (omega arith) (rw e at c.loop-k.invariant) (λ h. absurd (omega arith))
