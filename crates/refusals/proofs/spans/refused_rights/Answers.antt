use mathlib.Core.Path.{ap, sym, ◌∙◌}
use Rattle.words.proofs.RefusalLaws.{refused, passed}
use Rattle.refusals.proofs.ConditionLaws.{reserved-passes-six, rights-above}
use Rattle.refusals.proofs.spans.refused_rights.Goals as goal

pub returns-then-reserved_rights : goal.returns-then-reserved_rights
returns-then-reserved_rights c = let t = sym c.reserved_rights.ensures ∙ c.if-reserved_rights.true in (sym (passed _ _ _ _ (reserved-passes-six _ t) ∙ refused _ _ _ _ t))

pub returns : goal.returns
returns c = sym (refused _ _ _ _ (rights-above _ c.requires (sym c.reserved_rights.ensures ∙ c.if-reserved_rights.false)))
