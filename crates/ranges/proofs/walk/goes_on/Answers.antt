use Rattle.std.proofs.Common.{sym, ap, ◌∙◌, arith}
use Rattle.words.specs.Counts.{one-if}
use Rattle.runs.proofs.WordLaws.{goes-join, goes-new}
use Rattle.ranges.proofs.OneIf.{from-one-if}
use Rattle.ranges.proofs.walk.goes_on.Goals as goal

pub returns-then-joined : goal.returns-then-joined
returns-then-joined c = sym (goes-join _ _ _ (sym c.joined.ensures ∙ c.if-joined.true))

pub returns : goal.returns
returns c = omega (arith, c.from.ensures ∙ from-one-if _ ∙ sym (goes-new c.args.n _ _ (sym c.joined.ensures ∙ c.if-joined.false) ∙ ap one-if (sym c.mapped.ensures)))
