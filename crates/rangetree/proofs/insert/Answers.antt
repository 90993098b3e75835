use Rattle.trees.proofs.WordsLaws.{holding-words}
use Rattle.std.proofs.lemmas.Result.{err_from_is_err_and}
use Rattle.rangetree.proofs.AnswerLaws.{fine-here, insert-unsound, range-refused, range-taken, range-done}
use Rattle.rangetree.proofs.insert.Goals as goal

pub returns-in_err-judge_buffer-clause-promised : goal.returns-in_err-judge_buffer-clause-promised
returns-in_err-judge_buffer-clause-promised c = let p = err_from_is_err_and c.from_residual.result c.from_residual.ensures.1 in rw (p.1, p.2) (insert-unsound _ _ c.judge_buffer.ensures _ c.in_err-judge_buffer.was _)

pub judge_range-requires : goal.judge_range-requires
judge_range-requires c = let f = fine-here _ _ c.judge_buffer.ensures _ c.in_ok-judge_buffer.was in record { tree_len = f.0; lawful_tree = f.1 }

pub returns-in_err-judge_range-clause-promised : goal.returns-in_err-judge_range-clause-promised
returns-in_err-judge_range-clause-promised c =
    let f = fine-here _ _ c.judge_buffer.ensures _ c.in_ok-judge_buffer.was in
    let p = err_from_is_err_and c.from_residual-in_err-judge_range.result c.from_residual-in_err-judge_range.ensures.1 in
    rw (p.1, p.2) (range-refused _ f.0 f.1 _ _ c.judge_range.ensures _ c.in_err-judge_range.was)

pub height-h-requires : goal.height-h-requires
height-h-requires c = (fine-here _ _ c.judge_buffer.ensures _ c.in_ok-judge_buffer.was).0

pub insert_root-requires : goal.insert_root-requires
insert_root-requires c =
    let f = fine-here _ _ c.judge_buffer.ensures _ c.in_ok-judge_buffer.was in
    let t = range-taken _ f.0 f.1 _ _ c.judge_range.ensures _ c.in_ok-judge_range.was in
    record { tree_len = f.0; lawful_tree = f.1; h_value = c.height-h.ensures; proper_range = t.0; no_overlap = t.1 }

pub returns-clause-promised : goal.returns-clause-promised
returns-clause-promised c =
    let f = fine-here _ _ c.judge_buffer.ensures _ c.in_ok-judge_buffer.was in
    rw c.from.ensures (range-done _ f.0 f.1 _ _ c.judge_range.ensures _ c.in_ok-judge_range.was _ (holding-words _ _ c.insert_root.ensures.holding))
