use Rattle.layout.proofs.SoundLaws.{lengths-at}
use Rattle.layout.specs.declared.TableCall.TheVariants.{Protect}
use Rattle.layout.proofs.CallLaws.{call-refused, call-asked, protect-facts}
use Rattle.layout.proofs.DoneLaws.{protect-done}
use Rattle.tables.proofs.protect.Goals as goal

pub returns-in_err-judge_protect : goal.returns-in_err-judge_protect
returns-in_err-judge_protect c = call-refused (Protect _ _ _ _) _ _ _ c.from_residual.ensures c.in_err-judge_protect.ensures

pub protect_pages-n-requires : goal.protect_pages-n-requires
protect_pages-n-requires c = let q = protect-facts _ _ _ _ _ (call-asked (Protect _ _ _ _) _ c.in_ok-judge_protect.ensures) in
    let w = q.unmaps.spans in
    let l = lengths-at _ w.judged.lengths in
    record { pages_len = l.pages; ranges_len = l.ranges; space_le_last_space = w.space; count_bound = w.room; rights_value = q.allowed }

pub log_removal-requires : goal.log_removal-requires
log_removal-requires c = let q = protect-facts _ _ _ _ _ (call-asked (Protect _ _ _ _) _ c.in_ok-judge_protect.ensures) in
    record { control_len = (lengths-at _ q.unmaps.spans.judged.lengths).control; number_left = q.unmaps.number-left }

pub returns : goal.returns
returns c = rw c.from.ensures (protect-done _ _ _ _ _ c.in_ok-judge_protect.ensures _ _ _ _ c.protect_pages-n.ensures.value c.log_removal.ensures c.protect_pages-n.ensures.rewritten)
