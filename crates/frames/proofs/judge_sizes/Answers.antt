use mathlib.Core.Path.{sym, ◌∙◌}
use Rattle.blocks.proofs.CallLaws.{sizes-length, sizes-size, sizes-right}
use Rattle.frames.proofs.judge_sizes.Goals as goal

pub returns-then-frames-ne-BUFFER_WORDS : goal.returns-then-frames-ne-BUFFER_WORDS
returns-then-frames-ne-BUFFER_WORDS c = sizes-length _ _ c.if-frames-ne-BUFFER_WORDS.true

pub returns-then-not-is_pool_size : goal.returns-then-not-is_pool_size
returns-then-not-is_pool_size c = sizes-size _ _ c.if-frames-ne-BUFFER_WORDS.false (sym c.is_pool_size.ensures ∙ c.if-not-is_pool_size.true)

pub returns : goal.returns
returns c = sizes-right _ _ c.if-frames-ne-BUFFER_WORDS.false (sym c.is_pool_size.ensures ∙ c.if-not-is_pool_size.false)
