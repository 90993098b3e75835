use mathlib.Core.Path.{sym, ◌∙◌}
use native.Mathlib.Omega.{arith}
use borrow.Author.Tests.{lt-leb}
use Rattle.trees.proofs.RangeLaws.{not-covered-low, by-limit}
use Rattle.rangetree.proofs.judging.has_page.Goals as goal

pub returns-then-r-page : goal.returns-then-r-page
returns-then-r-page c = by-limit _ _ (omega arith)

pub returns-else-r-page : goal.returns-else-r-page
returns-else-r-page c = lt-leb c.args.r.base c.args.page.0 (omega arith) ∙ sym (not-covered-low _ _ (omega arith))
