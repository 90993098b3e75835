use Rattle.std.proofs.Common.{◌*◌, refl, ap, sym, ◌∙◌, arith}
use Rattle.std.specs.Option.{is_some}
use Rattle.words.proofs.SearchLaws.{all-step, all-stop, all_end}
use Rattle.words.proofs.CountLaws.{count-le}
use Rattle.layout.specs.Tables.{space_pages}
use Rattle.tablecheck.specs.Inner.{page_mapped}
use Rattle.tablecheck.proofs.WalkingLaws.{count-start, count-space, space-lent, count-lent}
use Rattle.tablecheck.proofs.walking.walk_spaces.Goals as goal

pub loop-s-init : goal.loop-s-init
loop-s-init c = (refl, count-start _)

pub returns-in_err-m-clause-sound_value : goal.returns-in_err-m-clause-sound_value
returns-in_err-m-clause-sound_value c = ap is_some c.from_residual.ensures ∙ all-stop _ _ _ c.loop-s-test.true (sym (space-lent _ _ _ _ _ c.loop-s.s _ _ c.is_open.ensures c.in_err-m.ensures.sound_value)) ∙ sym c.loop-s.invariant.0

pub overflow_add-m : goal.overflow_add-m
overflow_add-m c = let here = count-lent _ c.loop-s.s _ c.in_ok-m.ensures.mapped_value in
    omega (arith, c.loop-s.invariant.1, count-le (1024 * c.loop-s.s) (page_mapped c.args.pages.now), here, count-le 1024 (page_mapped (space_pages c.args.pages.now c.loop-s.s)))

pub loop-s-preserved : goal.loop-s-preserved
loop-s-preserved c = (
  c.loop-s.invariant.0 ∙ all-step _ _ _ c.loop-s-test.true (sym (space-lent _ _ _ _ _ c.loop-s.s _ _ c.is_open.ensures c.in_ok-m.ensures.sound_value)),
  count-space _ c.requires.pages_len c.loop-s.s (omega arith) _ _ c.loop-s.invariant.1 (count-lent _ c.loop-s.s _ c.in_ok-m.ensures.mapped_value),
)

pub returns-clause-sound_value : goal.returns-clause-sound_value
returns-clause-sound_value c = all_end _ _ _ c.loop-s-test.false ∙ sym c.loop-s.invariant.0
