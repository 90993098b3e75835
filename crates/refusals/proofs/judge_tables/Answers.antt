use mathlib.Core.Path.{ap, sym, ◌∙◌}
use mathlib.Core.Bool.{not}
use Rattle.words.proofs.RefusalLaws.{refused, passed, decided}
use Rattle.layout.proofs.SoundLaws.{lengths-at}
use Rattle.refusals.specs.Inner.{of_tables}
use Rattle.refusals.proofs.judge_tables.Goals as goal

pub returns-then-not-right_lengths : goal.returns-then-not-right_lengths
unfolding of_tables
returns-then-not-right_lengths c = sym (refused _ _ _ _ (ap not (sym c.right_lengths.ensures ∙ c.if-not-right_lengths.true)))

pub tables_sound-requires : goal.tables_sound-requires
tables_sound-requires c = let l = lengths-at _ (sym c.right_lengths.ensures ∙ c.if-not-right_lengths.false) in
    record { control_len = l.control; frames_len = l.frames; pages_len = l.pages; ranges_len = l.ranges }

pub returns-then-not-tables_sound : goal.returns-then-not-tables_sound
unfolding of_tables
returns-then-not-tables_sound c = sym (passed _ _ _ _ (ap not (sym c.right_lengths.ensures ∙ c.if-not-right_lengths.false)) ∙ refused _ _ _ _ (ap not (sym c.tables_sound.ensures ∙ c.if-not-tables_sound.true)))

pub returns : goal.returns
unfolding of_tables
returns c = sym (passed _ _ _ _ (ap not (sym c.right_lengths.ensures ∙ c.if-not-right_lengths.false)) ∙ passed _ _ _ _ (ap not (sym c.tables_sound.ensures ∙ c.if-not-tables_sound.false)) ∙ decided _)
