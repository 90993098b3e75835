use Rattle.std.proofs.Common.{sym, ◌∙◌, le-ltb, arith}
use Rattle.layout.proofs.PointingLaws.{page-unmapped, page-over, page-names}
use Rattle.tablecheck.proofs.walking.Space.page_ok.Goals as goal

pub returns-then-not-mapped : goal.returns-then-not-mapped
returns-then-not-mapped c = page-unmapped _ _ _ _ (sym c.mapped.ensures ∙ c.if-not-mapped.true)

pub returns-then-f-self : goal.returns-then-f-self
returns-then-f-self c = rw c.frame_in-f.ensures (page-names _ _ _ _ (sym c.mapped.ensures ∙ c.if-not-mapped.false) (omega (arith, c.frame_in-f.ensures)))

pub returns-else-f-self : goal.returns-else-f-self
returns-else-f-self c = le-ltb _ _ c.if-f-self.false ∙ page-over _ _ _ _ (sym c.mapped.ensures ∙ c.if-not-mapped.false) (omega (arith, c.frame_in-f.ensures))
