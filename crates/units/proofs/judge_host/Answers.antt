use mathlib.Core.Path.{ap, sym, ◌∙◌}
use mathlib.Core.Bool.{not}
use Rattle.words.proofs.RefusalLaws.{refused, passed, decided}
use Rattle.layout.proofs.Published.{lengths-at}
use Rattle.history.specs.Translate.{host_refusals}
use Rattle.units.proofs.TranslationLaws.{seen_more, seen-less}
use Rattle.units.proofs.judge_host.Goals as goal

pub returns-then-not-right_lengths : goal.returns-then-not-right_lengths
unfolding host_refusals
returns-then-not-right_lengths c = sym (refused _ _ _ _ (ap not (sym c.right_lengths.ensures ∙ c.if-not-right_lengths.true)))

pub all_sound-requires : goal.all_sound-requires
all_sound-requires c = let l = lengths-at _ (sym c.right_lengths.ensures ∙ c.if-not-right_lengths.false) in
    record { control_len = l.control; frames_len = l.frames; pages_len = l.pages; ranges_len = l.ranges }

pub returns-then-not-all_sound : goal.returns-then-not-all_sound
unfolding host_refusals
returns-then-not-all_sound c = sym (passed _ _ _ _ (ap not (sym c.right_lengths.ensures ∙ c.if-not-right_lengths.false)) ∙ refused _ _ _ _ (ap not (sym c.all_sound.ensures ∙ c.if-not-all_sound.true)))

pub removal_count-requires : goal.removal_count-requires
removal_count-requires c = (lengths-at _ (sym c.right_lengths.ensures ∙ c.if-not-right_lengths.false)).control

pub returns-then-removal_count-u : goal.returns-then-removal_count-u
unfolding host_refusals
returns-then-removal_count-u c = sym (passed _ _ _ _ (ap not (sym c.right_lengths.ensures ∙ c.if-not-right_lengths.false)) ∙ passed _ _ _ _ (ap not (sym c.all_sound.ensures ∙ c.if-not-all_sound.false)) ∙ refused _ _ _ _ (seen_more _ _ _ c.removal_count.ensures c.if-removal_count-u.true))

pub returns : goal.returns
unfolding host_refusals
returns c = sym (passed _ _ _ _ (ap not (sym c.right_lengths.ensures ∙ c.if-not-right_lengths.false)) ∙ passed _ _ _ _ (ap not (sym c.all_sound.ensures ∙ c.if-not-all_sound.false)) ∙ passed _ _ _ _ (seen-less _ _ _ c.removal_count.ensures c.if-removal_count-u.false) ∙ decided _)
