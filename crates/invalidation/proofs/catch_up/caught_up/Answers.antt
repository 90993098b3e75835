use Rattle.invalidation.proofs.RecordLaws.{applied-step, applied-end, far-behind, near-behind}
use native.Mathlib.Omega.{arith}
use mathlib.Core.Path.{refl, sym, ◌∙◌}
use Rattle.invalidation.proofs.catch_up.caught_up.Goals as goal

pub returns-then-c-seen-gt-PLACES : goal.returns-then-c-seen-gt-PLACES
returns-then-c-seen-gt-PLACES c = c.emptied.ensures ∙ far-behind _ _ _ c.removal_count-c.ensures c.if-c-seen-gt-PLACES.true

pub loop-m-init : goal.loop-m-init
loop-m-init c = refl

pub loop-m-preserved : goal.loop-m-preserved
loop-m-preserved c = c.loop-m.invariant ∙ applied-step _ _ _ _ c.loop-m-test.true ∙ rw (c.drop_named.ensures, c.removal_at.ensures) refl

pub returns : goal.returns
returns c = near-behind _ _ _ c.removal_count-c.ensures _ (omega arith) (applied-end _ _ _ _ c.loop-m-test.false ∙ sym c.loop-m.invariant)
