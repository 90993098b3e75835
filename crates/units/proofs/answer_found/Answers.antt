use mathlib.Core.Path.{ap, sym, ◌∙◌}
use mathlib.Core.Bool.{not}
use native.Mathlib.Omega.{arith}
use Rattle.words.proofs.RefusalLaws.{refused, passed, decided}
use Rattle.history.specs.Translate.{allows, finding_row}
use Rattle.units.proofs.TranslationLaws.{finding-refused, finding-given}
use Rattle.units.proofs.answer_found.Goals as goal

pub returns-then-not-is_found : goal.returns-then-not-is_found
unfolding finding_row
returns-then-not-is_found c = λ new. finding-refused _ _ _ new 12 (λ z. omega arith) (refused _ _ _ _ (ap not (sym c.is_found.ensures ∙ c.if-not-is_found.true)))

pub returns-then-not-allows : goal.returns-then-not-allows
unfolding finding_row
returns-then-not-allows c = λ new. finding-refused _ _ _ new 13 (λ z. omega arith) (passed _ _ _ _ (ap not (sym c.is_found.ensures ∙ c.if-not-is_found.false)) ∙ refused _ _ _ _ (ap not (ap (λ y. allows y c.args.access) (sym c.rights.ensures) ∙ sym c.allows.ensures ∙ c.if-not-allows.true)))

pub returns : goal.returns
unfolding finding_row
returns c = λ new. finding-given _ _ _ new _ _ (passed _ _ _ _ (ap not (sym c.is_found.ensures ∙ c.if-not-is_found.false)) ∙ passed _ _ _ _ (ap not (ap (λ y. allows y c.args.access) (sym c.rights.ensures) ∙ sym c.allows.ensures ∙ c.if-not-allows.false)) ∙ decided _) c.frame.ensures c.way.ensures
