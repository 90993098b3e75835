use native.Mathlib.Omega.{arith}
use mathlib.Core.Path.{◌∙◌}
use Prim.Native.Nat.{◌-◌}
use borrow.Author.Tests.{lt-leb}
use Rattle.trees.specs.Ranges.{frames_fit}
use Rattle.trees.proofs.RangeLaws.{past-misplaced, short-misplaced, placed-frames}
use Rattle.treecheck.proofs.checking.well_placed.Goals as goal

pub returns-then-r-gt-PAGES : goal.returns-then-r-gt-PAGES
returns-then-r-gt-PAGES c = past-misplaced _ (omega arith)

pub returns-then-r-lt-SMALLEST_RANGE : goal.returns-then-r-lt-SMALLEST_RANGE
returns-then-r-lt-SMALLEST_RANGE c = short-misplaced _ (omega arith)

pub returns-then-r : goal.returns-then-r
unfolding frames_fit
returns-then-r c = c.frames_fit.ensures ∙ placed-frames _ (omega arith) (omega arith)

pub returns-else-r : goal.returns-else-r
returns-else-r c = lt-leb c.args.r.base (c.args.r.limit - 8) c.if-r.false ∙ short-misplaced _ (omega arith)
