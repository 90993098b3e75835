use mathlib.Core.Path.{◌≡◌, ap, sym, ◌∙◌}
use native.Mathlib.Omega.{arith}
use Rattle.words.specs.Counts.{one-if}
use Rattle.words.proofs.SearchLaws.{all-stop, all_end}
use Rattle.words.proofs.CountLaws.{count-le}
use Rattle.runs.proofs.RunningLaws.{carries-page, running-mapped}
use Rattle.runs.proofs.StepLaws.{run-le, along-room}
use Rattle.runs.proofs.CheckLaws.{check-start, check-room, goes-here, check-step, check_along, end-room, end-holds, word_holds, check-end, refuted}
use Rattle.tablecheck.specs.Inner.{page_mapped, page_fits}
use Rattle.tablecheck.proofs.WalkingLaws.{fits-start, part-unlawful, part-wrong, part-lawful, fits-turn, count-start, count_turn, one-small}
use Rattle.ranges.proofs.OneIf.{from-one-if}
use Rattle.tablecheck.proofs.walking.walk_space.Goals as goal

-- what is carried is the running length: `Checking` has it as `.walked .carries`

pub loop-i-init : goal.loop-i-init
loop-i-init c = (rw (c.at_start-carried.ensures.0, c.at_start-carried.ensures.1) (check-start _ _ (omega arith) (omega arith)), (fits-start _ _ _ _ _ c.args.space.now.part_len, count-start _))

pub pass_page-here-requires : goal.pass_page-here-requires
pass_page-here-requires c = record { part_len = omega arith; b_lt_pages_in_space = omega arith; carries = c.loop-i.invariant.0.walked.carries }

pub invariant_of-end : goal.invariant_of-end
invariant_of-end c = let here = goes-here _ _ _ _ _ _ c.loop-i.invariant.0 _ _ (omega arith) c.pass_page-here.ensures.word_value c.pass_page-here.ensures.running_length in
    record { inside = run-le _ _ _ _ _ _ c.loop-i.invariant.0.walked; in_space = omega arith; room = check-room _ _ _ _ _ _ c.loop-i.invariant.0 _ _ (omega arith) c.pass_page-here.ensures.word_value here.1 }

pub returns-then-not-step_fits : goal.returns-then-not-step_fits
returns-then-not-step_fits c = let here = goes-here _ _ _ _ _ _ c.loop-i.invariant.0 _ _ (omega arith) c.pass_page-here.ensures.word_value c.pass_page-here.ensures.running_length in
    let s = c.loop-i.invariant.0 in
    let no-turn = refuted _ _ (λ l. c.step_fits.ensures.no (c.if-not-step_fits.true) (end-holds _ _ _ _ _ _ s l _ _ (omega arith) c.pass_page-here.ensures.word_value here.1, word_holds _ _ _ _ _ _ s l _ _ (omega arith) c.pass_page-here.ensures.word_value here.1)) in
    record { sound_value = part-unlawful _ _ _ _ _ _ no-turn; mapped_value = tt }

pub returns-then-not-page_fits : goal.returns-then-not-page_fits
returns-then-not-page_fits c = let fails = ap (page_fits _ _ _ _) (sym c.pass_page-here.ensures.word_value) ∙ sym c.page_fits.ensures ∙ c.if-not-page_fits.true in
    let wrong = all-stop _ _ _ c.loop-i-test.true fails in
    record { sound_value = part-wrong _ _ _ _ _ _ (wrong ∙ sym c.loop-i.invariant.1.0); mapped_value = tt }

pub overflow_add-m : goal.overflow_add-m
overflow_add-m c = let room = along-room _ _ _ _ _ (omega arith) c.over_fitting-along.ensures.along in
    omega (arith, room.0, room.1, one-small _ _ (c.from.ensures ∙ from-one-if _))

pub overflow_add-m-in-loop-i : goal.overflow_add-m-in-loop-i
overflow_add-m-in-loop-i c = let room = along-room _ _ _ _ _ (omega arith) c.over_fitting-along.ensures.along in
    omega (arith, room.0, room.1, one-small _ _ (c.from.ensures ∙ from-one-if _), c.loop-i.invariant.1.1, count-le c.loop-i.i (page_mapped c.args.space.now.part.now))

pub pass_stretch-carried-requires : goal.pass_stretch-carried-requires
pass_stretch-carried-requires c = record { part_len = c.loop-i.invariant.0.walked.size; b_le_pages_in_space = omega arith; carries = carries-page _ _ _ _ c.pass_page-here.ensures.running_length c.pass_page-here.ensures.word_value; along = c.over_fitting-along.ensures.along }

pub overflow_add-i-in-loop-i-2 : goal.overflow_add-i-in-loop-i-2
overflow_add-i-in-loop-i-2 c = let room = along-room _ _ _ _ _ (omega arith) c.over_fitting-along.ensures.along in omega (arith, room.0)

pub overflow_add-i-in-loop-i-3 : goal.overflow_add-i-in-loop-i-3
overflow_add-i-in-loop-i-3 c = let room = along-room _ _ _ _ _ (omega arith) c.over_fitting-along.ensures.along in omega (arith, room.0)

pub loop-i-preserved : goal.loop-i-preserved
loop-i-preserved c = let here = goes-here _ _ _ _ _ _ c.loop-i.invariant.0 _ _ (omega arith) c.pass_page-here.ensures.word_value c.pass_page-here.ensures.running_length in
    let fits = c.step_fits.ensures.yes (c.if-not-step_fits.false) in
    let turn = check-step _ _ _ _ _ _ c.loop-i.invariant.0 _ _ _ _ (omega arith) c.pass_page-here.ensures.word_value here.1 fits.0 fits.1 here.0 c.next_place-at.ensures in (
      check_along _ _ _ _ _ _ _ _ _ _ _ turn c.over_fitting-along.ensures.along (omega arith) c.pass_stretch-carried.ensures.carries_2,
      (
        fits-turn _ _ _ _ _ _ _ _ _ _ _ c.loop-i.invariant.1.0 c.pass_page-here.ensures.word_value c.loop-i-test.true (sym c.page_fits.ensures ∙ c.if-not-page_fits.false) c.over_fitting-along.ensures.along c.over_fitting-along.ensures.named (omega arith),
        count_turn _ _ _ _ _ _ _ _ c.loop-i.invariant.1.1 ((c.from.ensures ∙ from-one-if _) ∙ ap one-if (running-mapped _ _ _ (omega arith) c.pass_page-here.ensures.running_length)) c.over_fitting-along.ensures.along (omega arith),
      ),
    )

pub rest_fits-requires : goal.rest_fits-requires
rest_fits-requires c = let e : c.loop-i.i ≡ 1024 = omega (arith, c.loop-i.invariant.0.walked.inside) in
    record { ranges_len = omega arith; v_bound = rw e at (end-room _ _ _ _ _ _ c.loop-i.invariant.0 e); n_le_pages_in_space = omega (arith, run-le _ _ _ _ _ _ c.loop-i.invariant.0.walked) }

pub returns-then-not-rest_fits : goal.returns-then-not-rest_fits
returns-then-not-rest_fits c = let e : c.loop-i.i ≡ 1024 = omega (arith, c.loop-i.invariant.0.walked.inside) in
    let wrong = sym c.if-not-rest_fits.true ∙ check-end _ _ _ _ _ _ c.loop-i.invariant.0 _ e (rw (← e) at c.rest_fits.ensures) in
    record { sound_value = part-unlawful _ _ _ _ _ _ wrong; mapped_value = tt }

pub returns : goal.returns
returns c = let e : c.loop-i.i ≡ 1024 = omega (arith, c.loop-i.invariant.0.walked.inside) in
    let right = sym c.if-not-rest_fits.false ∙ check-end _ _ _ _ _ _ c.loop-i.invariant.0 _ e (rw (← e) at c.rest_fits.ensures) in
    record { sound_value = part-lawful _ _ _ _ _ _ (all_end _ _ _ c.loop-i-test.false ∙ sym c.loop-i.invariant.1.0) _ right; mapped_value = rw e at c.loop-i.invariant.1.1 }
