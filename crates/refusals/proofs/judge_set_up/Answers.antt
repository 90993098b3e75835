use mathlib.Core.Path.{ap, sym, ◌∙◌}
use mathlib.Core.Bool.{not}
use Rattle.words.specs.Rows.{number_of, after}
use Rattle.words.proofs.RefusalLaws.{refused, passed, decided}
use Rattle.layout.specs.Calls.{sized_row, row}
use Rattle.refusals.proofs.ConditionLaws.{size_low, size-high, size-right}
use Rattle.refusals.proofs.judge_set_up.Goals as goal

pub returns-then-not-right_lengths : goal.returns-then-not-right_lengths
unfolding number_of row after sized_row
returns-then-not-right_lengths c = sym (refused _ _ _ _ (ap not (sym c.right_lengths.ensures ∙ c.if-not-right_lengths.true)))

pub returns-then-pool-lt1 : goal.returns-then-pool-lt1
unfolding number_of row after sized_row
returns-then-pool-lt1 c = sym (passed _ _ _ _ (ap not (sym c.right_lengths.ensures ∙ c.if-not-right_lengths.false)) ∙ refused _ _ _ _ (size_low _ c.if-pool-lt1.true))

pub returns-then-pool-gt-LARGEST_POOL : goal.returns-then-pool-gt-LARGEST_POOL
unfolding number_of row after sized_row
returns-then-pool-gt-LARGEST_POOL c = sym (passed _ _ _ _ (ap not (sym c.right_lengths.ensures ∙ c.if-not-right_lengths.false)) ∙ refused _ _ _ _ (size-high _ c.if-pool-lt1.false c.if-pool-gt-LARGEST_POOL.true))

pub returns : goal.returns
unfolding number_of row after sized_row
returns c = sym (passed _ _ _ _ (ap not (sym c.right_lengths.ensures ∙ c.if-not-right_lengths.false)) ∙ passed _ _ _ _ (size-right _ c.if-pool-lt1.false c.if-pool-gt-LARGEST_POOL.false) ∙ decided _)
