use mathlib.Core.Path.{ap, ◌∙◌}
use lib.ListN.{replicate}
use Rattle.layout.specs.declared.TableCall.TheVariants.{SetUpPool}
use Rattle.layout.proofs.CallLaws.{call-refused, call-asked, set_up-facts}
use Rattle.layout.proofs.DoneLaws.{set_up-done}
use Rattle.tables.proofs.set_up_pool.Goals as goal

pub returns-in_err-judge_set_up : goal.returns-in_err-judge_set_up
returns-in_err-judge_set_up c = call-refused (SetUpPool _) _ _ _ c.from_residual.ensures c.in_err-judge_set_up.ensures

pub fresh_control-requires : goal.fresh_control-requires
fresh_control-requires c = (set_up-facts _ _ (call-asked (SetUpPool _) _ c.in_ok-judge_set_up.ensures)).0.control

pub fresh-requires : goal.fresh-requires
fresh-requires c = let q = set_up-facts _ _ (call-asked (SetUpPool _) _ c.in_ok-judge_set_up.ensures) in
    record { frames_len = q.0.frames; pool_le_largest_pool = q.2 }

pub returns : goal.returns
returns c = let l = (set_up-facts _ _ (call-asked (SetUpPool _) _ c.in_ok-judge_set_up.ensures)).0 in rw c.from.ensures (set_up-done _ _ c.in_ok-judge_set_up.ensures _ _ _ _ c.fresh_control.ensures c.fresh.ensures (c.fill.ensures.after (λ y e. e) ∙ ap (λ k. replicate k 0) l.pages) (c.fill-2.ensures.after (λ y e. e) ∙ ap (λ k. replicate k 0) l.ranges))
