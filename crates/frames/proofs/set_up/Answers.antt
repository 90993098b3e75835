use Rattle.std.proofs.lemmas.Result.{err_from_is_err_and}
use Rattle.blocks.proofs.WordLaws.{size-at}
use Rattle.blocks.proofs.CallLaws.{right-sizes, set-up-stopped, set-up-done}
use Rattle.frames.proofs.set_up.Goals as goal

pub returns-in_err-judge_sizes : goal.returns-in_err-judge_sizes
returns-in_err-judge_sizes c = let p = err_from_is_err_and c.from_residual.result c.from_residual.ensures.1 in rw (p.1, p.2) (set-up-stopped _ _ _ c.in_err-judge_sizes.ensures)

pub fresh-requires : goal.fresh-requires
fresh-requires c = let s = right-sizes _ _ c.in_ok-judge_sizes.ensures in record { frames_len = s.0; pool_le_largest_pool = (size-at _ s.1).1 }

pub returns : goal.returns
returns c = set-up-done _ _ c.in_ok-judge_sizes.ensures _ _ c.from.ensures c.fresh.ensures
