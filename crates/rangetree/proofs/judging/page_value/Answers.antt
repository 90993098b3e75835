use native.Mathlib.Omega.{arith}
use Rattle.runs.specs.Runs.{frame_by}
use Rattle.trees.specs.Ranges.{page_value}
use Rattle.rangetree.proofs.judging.page_value.Goals as goal

pub overflow_mul-result : goal.overflow_mul-result
unfolding page_value frame_by
overflow_mul-result c = let h = c.requires in omega arith

pub overflow_add-result : goal.overflow_add-result
unfolding page_value frame_by
overflow_add-result c = let h = c.requires in let e = c.frame_at.ensures in omega arith

pub returns : goal.returns
unfolding page_value frame_by
returns c = let e = c.frame_at.ensures in omega arith
