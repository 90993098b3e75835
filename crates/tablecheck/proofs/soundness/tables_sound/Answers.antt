use mathlib.Core.Path.{sym, ◌∙◌}
use Rattle.tablecheck.proofs.SoundnessLaws.{pool-small, bad-control, bad-frames, bad-spaces, by-counting}
use Rattle.tablecheck.proofs.soundness.tables_sound.Goals as goal

pub returns-then-not-control_lawful : goal.returns-then-not-control_lawful
returns-then-not-control_lawful c = bad-control _ _ _ _ (sym c.control_lawful.ensures ∙ c.if-not-control_lawful.true)

pub returns-in_default : goal.returns-in_default
returns-in_default c = bad-frames _ _ _ _ _ c.pool_size-pool.ensures (sym c.control_lawful.ensures ∙ c.if-not-control_lawful.false) (sym c.in_default.ensures.lawful_value)

pub walk_spaces-requires-clause-pool_le_largest_pool : goal.walk_spaces-requires-clause-pool_le_largest_pool
walk_spaces-requires-clause-pool_le_largest_pool c = pool-small _ _ c.pool_size-pool.ensures (sym c.control_lawful.ensures ∙ c.if-not-control_lawful.false)

pub returns-in_default-walk_spaces : goal.returns-in_default-walk_spaces
returns-in_default-walk_spaces c = bad-spaces _ _ _ _ _ c.pool_size-pool.ensures (sym c.control_lawful.ensures ∙ c.if-not-control_lawful.false) (record { control = c.requires.control_len; frames = c.requires.frames_len; pages = c.requires.pages_len; ranges = c.requires.ranges_len }) (sym c.in-Some.ensures.lawful_value) _ c.open_mask-mask.ensures (sym c.in_default-walk_spaces.ensures.sound_value)

pub returns : goal.returns
returns c = by-counting _ _ _ _ _ c.pool_size-pool.ensures (sym c.control_lawful.ensures ∙ c.if-not-control_lawful.false) (record { control = c.requires.control_len; frames = c.requires.frames_len; pages = c.requires.pages_len; ranges = c.requires.ranges_len }) (sym c.in-Some.ensures.lawful_value) _ c.open_mask-mask.ensures (sym c.in-Some-walk_spaces.ensures.sound_value) _ _ c.in-Some-walk_spaces.ensures.mapped_value c.in-Some.ensures.held_value
