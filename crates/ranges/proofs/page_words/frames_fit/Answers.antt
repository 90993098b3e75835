use Rattle.runs.specs.Runs.{frame_by}
use Rattle.std.proofs.Common.{le-ltb, ◌∙◌, arith}
use Rattle.runs.proofs.FrameLaws.{first-beyond, last-decides}
use Rattle.ranges.proofs.page_words.frames_fit.Goals as goal

pub returns-then-f-lt-LARGEST_POOL : goal.returns-then-f-lt-LARGEST_POOL
unfolding frame_by
returns-then-f-lt-LARGEST_POOL c = last-decides _ _ _ _ (omega arith) c.frame_at-f.ensures (omega arith) c.if-f-lt-LARGEST_POOL.true

pub returns-else-f-lt-LARGEST_POOL : goal.returns-else-f-lt-LARGEST_POOL
unfolding frame_by
returns-else-f-lt-LARGEST_POOL c = le-ltb _ _ c.if-f-lt-LARGEST_POOL.false ∙ first-beyond _ _ _ _ (omega arith) c.frame_at-f.ensures c.if-f-lt-LARGEST_POOL.false
