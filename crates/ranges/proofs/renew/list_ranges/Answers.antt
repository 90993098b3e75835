use Rattle.std.proofs.Common.{◌≡◌, ℕ, length, refl, ◌∙◌, arith, length-set}
use Rattle.runs.proofs.StepLaws.{run-le, along-room}
use Rattle.runs.proofs.RenewLaws.{renew-start, room-step, renew-step, renew-along, room-end, renew-pages, renew-entries}
use Rattle.ranges.proofs.renew.list_ranges.Goals as goal

pub loop-i-init : goal.loop-i-init
loop-i-init c = renew-start _ _ (omega arith) (omega arith)

pub invariant_of-end : goal.invariant_of-end
invariant_of-end c = record { inside = run-le _ _ _ _ _ _ c.loop-i.invariant.walked; in_space = omega arith; room = room-step _ _ _ _ _ _ _ c.loop-i.invariant _ _ (omega arith) refl c.joined.ensures }

pub over-along-requires : goal.over-along-requires
over-along-requires c = let k : length c.end_run-at.new.part ≡ 1024 = omega arith in
    record { part_len = length-set {A = ℕ} c.end_run-at.new.part c.loop-i.i c.bit_word.result ∙ k; b_le_pages_in_space = omega arith }

pub goes_on-requires : goal.goes_on-requires
goes_on-requires c = omega (arith, run-le _ _ _ _ _ _ c.loop-i.invariant.walked)

pub overflow_add-n : goal.overflow_add-n
overflow_add-n c = let st = renew-step _ _ _ _ _ _ _ c.loop-i.invariant _ _ _ _ _ _ _ _ (omega arith) refl (omega arith) c.joined.ensures c.range_bit.ensures c.bit_word.ensures c.goes_on.ensures c.end_run-at.ensures in
    let r = along-room _ _ _ _ _ (omega arith) c.over-along.ensures.along in
    omega (arith, r.0, r.1, run-le _ _ _ _ _ _ st.walked)

pub overflow_add-i-in-loop-i : goal.overflow_add-i-in-loop-i
overflow_add-i-in-loop-i c = let r = along-room _ _ _ _ _ (omega arith) c.over-along.ensures.along in omega (arith, r.0)

pub overflow_add-i-in-loop-i-2 : goal.overflow_add-i-in-loop-i-2
overflow_add-i-in-loop-i-2 c = let r = along-room _ _ _ _ _ (omega arith) c.over-along.ensures.along in omega (arith, r.0)

pub loop-i-preserved : goal.loop-i-preserved
loop-i-preserved c = let st = renew-step _ _ _ _ _ _ _ c.loop-i.invariant _ _ _ _ _ _ _ _ (omega arith) refl (omega arith) c.joined.ensures c.range_bit.ensures c.bit_word.ensures c.goes_on.ensures c.end_run-at.ensures in
    renew-along _ _ _ _ _ _ _ _ _ _ _ st c.over-along.ensures.along (omega arith) c.over-along.ensures.last_value

pub invariant_of-end-2 : goal.invariant_of-end-2
invariant_of-end-2 c = let e : c.loop-i.i ≡ 1024 = omega (arith, c.loop-i.invariant.walked.inside) in
    let r = room-end _ _ _ _ _ _ _ c.loop-i.invariant e in
    record { inside = omega (arith, run-le _ _ _ _ _ _ c.loop-i.invariant.walked); in_space = omega arith; room = rw e at r }

pub returns : goal.returns
returns c = let e : c.loop-i.i ≡ 1024 = omega (arith, c.loop-i.invariant.walked.inside) in
    let r = c.end_run.ensures in
    record { part_after = renew-pages _ _ _ _ _ _ _ c.loop-i.invariant _ _ _ e (omega arith) (rw (← e) at r); value = (renew-entries _ _ _ _ _ _ _ c.loop-i.invariant _ _ _ e (rw (← e) at r)).0; ranges_after = (renew-entries _ _ _ _ _ _ _ c.loop-i.invariant _ _ _ e (rw (← e) at r)).1 }
