use Rattle.std.proofs.Common.{◌∙◌, arith}
use Rattle.control.proofs.ControlLaws.{used-no, used-last, unused-test}
use Rattle.control.proofs.record_ok.Goals as goal

pub returns-then-not-used : goal.returns-then-not-used
returns-then-not-used c = c.eq.ensures ∙ unused-test _ _ _ _ c.if-not-used.true

pub returns-then-space-gt-LAST_SPACE : goal.returns-then-space-gt-LAST_SPACE
returns-then-space-gt-LAST_SPACE c = used-no _ _ _ _ c.if-not-used.false (λ x y z. grind (arith, c.then-space-gt-LAST_SPACE.either))

pub returns : goal.returns
returns c = used-last _ _ _ _ c.if-not-used.false c.if-space-gt-LAST_SPACE.false c.if-count-lt1.false c.if-count-gt-PAGES.false
