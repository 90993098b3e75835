use mathlib.Core.Path.{sym, ◌∙◌}
use Rattle.invalidation.proofs.KeepLaws.{none-changed, one-emptied, one-kept, all_changed}
use Rattle.invalidation.proofs.catch_up.drop_entries.Goals.{then-is_named, else-is_named}
use Rattle.invalidation.proofs.catch_up.drop_entries.Goals as goal

pub loop-e-init : goal.loop-e-init
loop-e-init g c = none-changed _ _ g.E.Entry.EMPTY

pub loop-e-preserved : goal.loop-e-preserved
loop-e-preserved g c = elim c.if-is_named.branch [
  | then-is_named w ↦ let is = rw w.EMPTY.ensures at w.e-items-is in is ∙ one-emptied (g.E.Entry.named c.args.d) g.E.Entry.EMPTY _ _ _ c.e-item.result c.loop-e.invariant c.loop-e-test.true (sym c.is_named.ensures ∙ w.if-is_named.true)
  | else-is_named w ↦ w.e-items-is ∙ one-kept (g.E.Entry.named c.args.d) g.E.Entry.EMPTY _ _ _ c.e-item.result c.loop-e.invariant c.loop-e-test.true (sym c.is_named.ensures ∙ w.if-is_named.false)
]

pub returns : goal.returns
returns g c = c.loop-e.invariant ∙ all_changed _ _ g.E.Entry.EMPTY _ c.loop-e-test.false
