use Rattle.layout.proofs.SoundLaws.{lengths-at}
use Rattle.layout.specs.declared.TableCall.TheVariants.{Open}
use Rattle.layout.proofs.CallLaws.{call-refused, call-asked, open-facts}
use Rattle.layout.proofs.DoneLaws.{open_done}
use Rattle.tables.proofs.WritingLaws.{mask_low, shut_at}
use Rattle.tables.proofs.open.Goals as goal

pub returns-in_err-judge_open : goal.returns-in_err-judge_open
returns-in_err-judge_open c = call-refused (Open _) _ _ _ c.from_residual.ensures c.in_err-judge_open.ensures

pub open_space-requires : goal.open_space-requires
open_space-requires c = let q = open-facts _ _ (call-asked (Open _) _ c.in_ok-judge_open.ensures) in
    record { control_len = (lengths-at _ q.judged.lengths).control; s_le_last_space = q.space; control_bound = mask_low _ q.judged.tables; s_value = shut_at _ _ q.shut }

pub returns : goal.returns
returns c = rw c.from.ensures (open_done _ _ c.in_ok-judge_open.ensures _ c.open_space.ensures)
