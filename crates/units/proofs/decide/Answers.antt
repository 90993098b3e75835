use mathlib.Core.Path.{subst, sym, ◌∙◌}
use Prim.Native.Nat.{◌≤◌}
use Rattle.history.specs.declared.Unit.{Unit as TlbUnit}
use Rattle.history.proofs.CatchLaws.{caught-next}
use Rattle.units.proofs.TranslationLaws.{refused-unit, accepted-unit, as-beside}
use Rattle.units.proofs.decide.Goals as goal

pub returns-then-is_err : goal.returns-then-is_err
returns-then-is_err c = as-beside _ _ _ _ _ c.beside.ensures (refused-unit _ _ _ _ _ _ _ _ _ _ _ c.caught_up-v.ensures c.word_of.ensures c.find-f.ensures c.answer_found-answer.ensures (sym c.is_err.ensures.value ∙ c.if-is_err.true))

pub install_found-requires : goal.install_found-requires
install_found-requires c = record { ranges_len = c.requires.ranges_len; space_le_last_space = c.requires.space_le_last_space.0; next_le_largest_place = subst (λ (y : TlbUnit). y.next ≤ 31) (sym c.caught_up-v.ensures) (caught-next _ _ c.requires.next_le_largest_place) }

pub returns : goal.returns
returns c = as-beside _ _ _ _ _ c.beside-2.ensures (accepted-unit _ _ _ _ _ _ _ _ _ _ _ c.caught_up-v.ensures c.word_of.ensures c.find-f.ensures c.answer_found-answer.ensures _ (sym c.is_err.ensures.value ∙ c.if-is_err.false) c.install_found.ensures)
