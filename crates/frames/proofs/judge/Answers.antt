use mathlib.Core.Path.{sym, ◌∙◌}
use Rattle.std.proofs.lemmas.Result.{err_from_is_err_and}
use Rattle.blocks.proofs.CallLaws.{sizes-stopped, judge-unlawful, judge-lawful}
use Rattle.frames.proofs.judge.Goals as goal

pub returns-in_err-judge_sizes : goal.returns-in_err-judge_sizes
returns-in_err-judge_sizes c = let p = err_from_is_err_and c.from_residual.result c.from_residual.ensures.1 in rw (p.1, p.2) (sizes-stopped _ _ _ c.in_err-judge_sizes.ensures)

pub returns-then-not-lawful : goal.returns-then-not-lawful
returns-then-not-lawful c = judge-unlawful _ _ c.in_ok-judge_sizes.ensures (sym c.lawful.ensures ∙ c.if-not-lawful.true)

pub returns : goal.returns
returns c = judge-lawful _ _ (sym c.lawful.ensures ∙ c.if-not-lawful.false)
