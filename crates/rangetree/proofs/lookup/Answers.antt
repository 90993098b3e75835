use mathlib.Core.Path.{sym, ◌∙◌}
use native.Mathlib.Omega.{arith}
use Rattle.trees.proofs.CallLaws.{lookup-past, lookup-none, value-fits, lookup-done}
use Rattle.std.proofs.lemmas.Result.{err_from_is_err_and}
use Rattle.rangetree.proofs.AnswerLaws.{fine-here, lookup-unsound, none-has, some-has}
use Rattle.rangetree.proofs.lookup.Goals as goal

pub returns-in_err-judge_buffer : goal.returns-in_err-judge_buffer
returns-in_err-judge_buffer c = let p = err_from_is_err_and c.from_residual.result c.from_residual.ensures.1 in rw (p.1, p.2) (lookup-unsound _ _ c.judge_buffer.ensures _ c.in_err-judge_buffer.was _)

pub returns-then-page-gt-LAST_PAGE : goal.returns-then-page-gt-LAST_PAGE
returns-then-page-gt-LAST_PAGE c = let f = fine-here _ _ c.judge_buffer.ensures _ c.in_ok-judge_buffer.was in lookup-past _ f.0 f.1 _ (omega arith)

pub search-p-requires : goal.search-p-requires
search-p-requires c = let f = fine-here _ _ c.judge_buffer.ensures _ c.in_ok-judge_buffer.was in record { tree_len = f.0; lawful_tree = f.1 }

pub returns-in_default : goal.returns-in_default
returns-in_default c = let f = fine-here _ _ c.judge_buffer.ensures _ c.in_ok-judge_buffer.was in lookup-none _ f.0 f.1 _ (omega arith) _ c.search-p.ensures (none-has _ _ c.in_default.is)

pub returns-then-not-has_page : goal.returns-then-not-has_page
returns-then-not-has_page c = let f = fine-here _ _ c.judge_buffer.ensures _ c.in_ok-judge_buffer.was in lookup-none _ f.0 f.1 _ (omega arith) _ c.search-p.ensures (some-has _ _ _ _ c.in-Some.is (sym c.has_page.ensures ∙ c.if-not-has_page.true))

pub page_value-requires : goal.page_value-requires
page_value-requires c = let f = fine-here _ _ c.judge_buffer.ensures _ c.in_ok-judge_buffer.was in value-fits _ f.0 f.1 _ (omega arith) _ c.search-p.ensures _ c.in-Some.is (sym c.has_page.ensures ∙ c.if-not-has_page.false)

pub returns : goal.returns
returns c = let f = fine-here _ _ c.judge_buffer.ensures _ c.in_ok-judge_buffer.was in lookup-done _ f.0 f.1 _ (omega arith) _ c.search-p.ensures _ c.in-Some.is (sym c.has_page.ensures ∙ c.if-not-has_page.false) _ c.page_value.ensures
