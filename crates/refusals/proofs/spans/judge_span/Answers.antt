use mathlib.Core.Path.{ap, sym, ◌∙◌}
use mathlib.Core.Bool.{not}
use borrow.Author.Tests.{le-ltb, lt-ltb}
use Rattle.words.proofs.RefusalLaws.{refused, passed, decided}
use Rattle.refusals.specs.Inner.{of_span}
use Rattle.layout.proofs.CallLaws.{open_by}
use Rattle.refusals.proofs.ConditionLaws.{rights-pass, rights-stop}
use Rattle.refusals.proofs.spans.judge_span.Goals as goal

pub returns-then-space-gt-LAST_SPACE : goal.returns-then-space-gt-LAST_SPACE
unfolding of_span
returns-then-space-gt-LAST_SPACE c = sym (refused _ _ _ _ (lt-ltb _ _ c.if-space-gt-LAST_SPACE.true))

pub refused_rights-requires : goal.refused_rights-requires
refused_rights-requires c = sym c.allowed_rights.ensures ∙ c.if-not-allowed_rights.true

pub returns-then-not-allowed_rights : goal.returns-then-not-allowed_rights
unfolding of_span
returns-then-not-allowed_rights c = c.refused_rights.ensures
    ∙ (sym (passed _ _ _ _ (le-ltb _ _ c.if-space-gt-LAST_SPACE.false) ∙ rights-stop _ _ (sym c.allowed_rights.ensures ∙ c.if-not-allowed_rights.true)))

pub returns-then-not-is_span : goal.returns-then-not-is_span
unfolding of_span
returns-then-not-is_span c = sym (passed _ _ _ _ (le-ltb _ _ c.if-space-gt-LAST_SPACE.false) ∙ rights-pass _ _ (sym c.allowed_rights.ensures ∙ c.if-not-allowed_rights.false) ∙ refused _ _ _ _ (ap not (sym c.is_span.ensures ∙ c.if-not-is_span.true)))

pub is_open-requires : goal.is_open-requires
is_open-requires c = c.if-space-gt-LAST_SPACE.false

pub returns-then-not-is_open : goal.returns-then-not-is_open
unfolding of_span
returns-then-not-is_open c = sym (passed _ _ _ _ (le-ltb _ _ c.if-space-gt-LAST_SPACE.false) ∙ rights-pass _ _ (sym c.allowed_rights.ensures ∙ c.if-not-allowed_rights.false) ∙ passed _ _ _ _ (ap not (sym c.is_span.ensures ∙ c.if-not-is_span.false)) ∙ refused _ _ _ _ (ap not (open_by _ _ _ _ c.open_mask.ensures c.is_open.ensures ∙ c.if-not-is_open.true)))

pub returns : goal.returns
unfolding of_span
returns c = sym (passed _ _ _ _ (le-ltb _ _ c.if-space-gt-LAST_SPACE.false) ∙ rights-pass _ _ (sym c.allowed_rights.ensures ∙ c.if-not-allowed_rights.false) ∙ passed _ _ _ _ (ap not (sym c.is_span.ensures ∙ c.if-not-is_span.false)) ∙ passed _ _ _ _ (ap not (open_by _ _ _ _ c.open_mask.ensures c.is_open.ensures ∙ c.if-not-is_open.false)) ∙ decided _)
