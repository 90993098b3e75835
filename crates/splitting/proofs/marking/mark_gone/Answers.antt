use native.Mathlib.Omega.{arith}
use Rattle.words.proofs.PowerLaws.{shift_one}
use Rattle.blocks.proofs.MarkLaws.{gone-fits, gone-added}
use Rattle.splitting.proofs.marking.mark_gone.Goals as goal

pub overflow_add-marks : goal.overflow_add-marks
overflow_add-marks c = record { fits = gone-fits _ _ _ c.requires.s_value (shift_one 32 _ (omega arith)) (omega arith) }

pub returns : goal.returns
returns c = gone-added _ _ _ c.requires.s_value (shift_one 32 _ (omega arith)) c.requires.marks_len c.requires.s_lt_largest_pool
