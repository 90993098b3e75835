use mathlib.Core.Path.{sym, ◌∙◌}
use native.Mathlib.Omega.{arith}
use Rattle.trees.specs.Trees.{tree_of}
use Rattle.trees.proofs.WordsLaws.{holding-words}
use Rattle.trees.proofs.CallLaws.{remove-past, remove-none, remove-high, remove-done}
use Rattle.std.proofs.lemmas.Result.{err_from_is_err_and}
use Rattle.rangetree.proofs.AnswerLaws.{fine-here, remove-unsound}
use Rattle.rangetree.proofs.remove.Goals as goal

pub returns-in_err-judge_buffer-clause-promised : goal.returns-in_err-judge_buffer-clause-promised
returns-in_err-judge_buffer-clause-promised c = let p = err_from_is_err_and c.from_residual.result c.from_residual.ensures.1 in rw (p.1, p.2) (remove-unsound _ _ c.judge_buffer.ensures _ c.in_err-judge_buffer.was _)

pub returns-then-base-gt-LAST_PAGE-clause-promised : goal.returns-then-base-gt-LAST_PAGE-clause-promised
returns-then-base-gt-LAST_PAGE-clause-promised c = let f = fine-here _ _ c.judge_buffer.ensures _ c.in_ok-judge_buffer.was in remove-past _ f.0 f.1 _ (omega arith)

pub search-p-requires : goal.search-p-requires
search-p-requires c = let f = fine-here _ _ c.judge_buffer.ensures _ c.in_ok-judge_buffer.was in record { tree_len = f.0; lawful_tree = f.1 }

pub returns-then-not-begins_at-clause-promised : goal.returns-then-not-begins_at-clause-promised
returns-then-not-begins_at-clause-promised c = let f = fine-here _ _ c.judge_buffer.ensures _ c.in_ok-judge_buffer.was in remove-none _ f.0 f.1 _ (omega arith) _ c.search-p.ensures (sym c.begins_at.ensures ∙ c.if-not-begins_at.true)

pub height-h-requires : goal.height-h-requires
height-h-requires c = (fine-here _ _ c.judge_buffer.ensures _ c.in_ok-judge_buffer.was).0

pub remove_root-requires : goal.remove_root-requires
remove_root-requires c =
    let f = fine-here _ _ c.judge_buffer.ensures _ c.in_ok-judge_buffer.was in
    let h = remove-high _ f.0 f.1 _ (omega arith) _ c.search-p.ensures (sym c.begins_at.ensures ∙ c.if-not-begins_at.false) in
    let e = c.height-h.ensures in
    record { tree_len = f.0; lawful_tree = f.1; h_value = (e, omega arith) }

pub returns-clause-promised : goal.returns-clause-promised
returns-clause-promised c =
    let f = fine-here _ _ c.judge_buffer.ensures _ c.in_ok-judge_buffer.was in
    rw c.from.ensures (remove-done _ f.0 f.1 _ (omega arith) _ c.search-p.ensures (sym c.begins_at.ensures ∙ c.if-not-begins_at.false) _ (holding-words _ _ c.remove_root.ensures.holding))

pub returns-clause-others_stay : goal.returns-clause-others_stay
unfolding tree_of
returns-clause-others_stay c = λ z. c.remove_root.ensures.others_stay
