use native.Mathlib.Omega.{arith}
use Rattle.history.specs.Translate.{covers, table_entry}
use mathlib.Core.Path.{sym, ap, ◌∙◌}
use Rattle.history.specs.declared.RangeEntry.{RangeEntry}
use Rattle.history.specs.Units.{no_range}
use Rattle.lookup.proofs.FindingLaws.{table-first, table_none, none_yet}
use Rattle.lookup.proofs.install.table_range.Goals as goal

pub loop-j-init : goal.loop-j-init
loop-j-init c = λ k lo hi. absurd (omega arith)

pub returns-then-covers : goal.returns-then-covers
returns-then-covers c = c.table_entry-e.ensures ∙ table-first _ _ _ _ (omega arith) (ap (λ (e : RangeEntry). covers e c.args.s c.args.p.0) (sym c.table_entry-e.ensures) ∙ (sym c.covers.ensures ∙ c.if-covers.true)) c.loop-j.invariant

pub loop-j-preserved : goal.loop-j-preserved
loop-j-preserved c = none_yet (λ k. covers (table_entry c.args.s c.args.ranges.now k) c.args.s c.args.p.0) _ (ap (λ (e : RangeEntry). covers e c.args.s c.args.p.0) (sym c.table_entry-e.ensures) ∙ (sym c.covers.ensures ∙ c.if-covers.false)) c.loop-j.invariant

pub returns : goal.returns
unfolding no_range
returns c = table_none _ _ _ _ (omega arith) c.loop-j.invariant
