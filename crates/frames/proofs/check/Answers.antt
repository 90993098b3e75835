use Rattle.std.proofs.lemmas.Result.{err_from_is_err_and}
use Rattle.blocks.proofs.CallLaws.{passed, check-stopped, check_done}
use Rattle.frames.proofs.check.Goals as goal

pub returns-in_err-judge : goal.returns-in_err-judge
returns-in_err-judge c = let p = err_from_is_err_and c.from_residual.result c.from_residual.ensures.1 in rw (p.1, p.2) (check-stopped _ _ _ c.in_err-judge.ensures)

pub returns : goal.returns
returns c = check_done _ _ (passed _ _ c.in_ok-judge.ensures) _ c.from.ensures
