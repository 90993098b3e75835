use mathlib.Core.Path.{sym, ◌∙◌}
use borrow.Author.Tests.{eqb-true, eqb-false}
use Rattle.records.proofs.InputLaws.{none_left, cut_short, all_there}
use Rattle.records.proofs.input.next_of.Goals as goal

pub returns-then-is_empty : goal.returns-then-is_empty
returns-then-is_empty c = none_left _ (eqb-true _ _ (sym c.is_empty.ensures ∙ c.if-is_empty.true))

pub returns-in-Some : goal.returns-in-Some
returns-in-Some c = all_there _ (eqb-false _ _ (sym c.is_empty.ensures ∙ c.if-is_empty.false)) _ c.in-Some.ensures.value.0 c.in-Some.ensures.value.1 _ c.read_record.ensures

pub returns-in-None : goal.returns-in-None
returns-in-None c = cut_short _ (eqb-false _ _ (sym c.is_empty.ensures ∙ c.if-is_empty.false)) c.in-None.ensures.value
