use Rattle.std.proofs.lemmas.Result.{err_from_is_err_and}
use Rattle.blocks.proofs.WordLaws.{lawful-is}
use Rattle.blocks.proofs.CallLaws.{passed, count-stopped, count-done}
use Rattle.frames.proofs.count.Goals as goal

pub returns-in_err-judge : goal.returns-in_err-judge
returns-in_err-judge c = let p = err_from_is_err_and c.from_residual.result c.from_residual.ensures.1 in rw (p.1, p.2) (count-stopped _ _ _ c.in_err-judge.ensures)

pub count_free-requires : goal.count_free-requires
count_free-requires c = let l = lawful-is _ _ (passed _ _ c.in_ok-judge.ensures) in record { frames_len = l.len; pool_le_largest_pool = l.small }

pub returns : goal.returns
returns c = count-done _ _ (passed _ _ c.in_ok-judge.ensures) _ c.count_free.ensures _ c.from.ensures
