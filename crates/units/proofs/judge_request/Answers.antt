use mathlib.Core.Path.{ap, sym, ◌∙◌}
use mathlib.Core.Bool.{not}
use borrow.Author.Tests.{le-ltb, lt-ltb}
use Rattle.words.proofs.RefusalLaws.{refused, passed, decided}
use Rattle.layout.proofs.Published.{open_by}
use Rattle.history.specs.Translate.{request_refusals}
use Rattle.units.proofs.judge_request.Goals as goal

pub returns-then-space-gt-LAST_SPACE : goal.returns-then-space-gt-LAST_SPACE
unfolding request_refusals
returns-then-space-gt-LAST_SPACE c = sym (refused _ _ _ _ (lt-ltb _ _ c.if-space-gt-LAST_SPACE.true))

pub returns-then-not-is_access : goal.returns-then-not-is_access
unfolding request_refusals
returns-then-not-is_access c = sym (passed _ _ _ _ (le-ltb _ _ c.if-space-gt-LAST_SPACE.false) ∙ refused _ _ _ _ (ap not (sym c.is_access.ensures ∙ c.if-not-is_access.true)))

pub returns-then-page-gt-LAST_PAGE : goal.returns-then-page-gt-LAST_PAGE
unfolding request_refusals
returns-then-page-gt-LAST_PAGE c = sym (passed _ _ _ _ (le-ltb _ _ c.if-space-gt-LAST_SPACE.false) ∙ passed _ _ _ _ (ap not (sym c.is_access.ensures ∙ c.if-not-is_access.false)) ∙ refused _ _ _ _ (lt-ltb _ _ c.if-page-gt-LAST_PAGE.true))

pub is_open-requires : goal.is_open-requires
is_open-requires c = c.if-space-gt-LAST_SPACE.false

pub returns-then-not-is_open : goal.returns-then-not-is_open
unfolding request_refusals
returns-then-not-is_open c = sym (passed _ _ _ _ (le-ltb _ _ c.if-space-gt-LAST_SPACE.false) ∙ passed _ _ _ _ (ap not (sym c.is_access.ensures ∙ c.if-not-is_access.false)) ∙ passed _ _ _ _ (le-ltb _ _ c.if-page-gt-LAST_PAGE.false) ∙ refused _ _ _ _ (ap not (open_by _ _ _ _ c.open_mask.ensures c.is_open.ensures ∙ c.if-not-is_open.true)))

pub returns : goal.returns
unfolding request_refusals
returns c = sym (passed _ _ _ _ (le-ltb _ _ c.if-space-gt-LAST_SPACE.false) ∙ passed _ _ _ _ (ap not (sym c.is_access.ensures ∙ c.if-not-is_access.false)) ∙ passed _ _ _ _ (le-ltb _ _ c.if-page-gt-LAST_PAGE.false) ∙ passed _ _ _ _ (ap not (open_by _ _ _ _ c.open_mask.ensures c.is_open.ensures ∙ c.if-not-is_open.false)) ∙ decided _)
